-- An active block passes its test exactly if, apart from its current stats, it is the block of a valid active member.
use Rattle.gen1_layout.proofs.Words.{Active, ActiveConditions, Bool, DisabledSlot, IsBetween, List, Member, None, Option, Some, [], ap, arith, false, inl, inr, is_some, known_in, length, nat_le, nat_tests, nobody, refl, slice_index, slice_index_or, subst, suc, sym, true, zero, ℕ, ◌∙◌}
use Rattle.std.proofs.Common.{drop, if◌then◌else◌, unwrap_or, ◌%◌, ◌&&◌, ◌*◌, ◌+◌, ◌-◌, ◌/◌, ◌<◌, ◌==◌, ◌||◌, ◌∷◌, ◌≡◌, ◌≤◌}
use Rattle.std.proofs.lemmas.List.{get_or-drop, get_or-take}
use Rattle.std.specs.Int.{bit_at}
use Rattle.gen1_tables.specs.declared.types.Element.{Element}
use Rattle.gen1_tables.specs.declared.types.Element.TheVariants.{Normal, Fighting, Flying, Poison, Ground, Rock, Bug, Ghost, Fire, Water, Grass, Electric, Psychic, Ice, Dragon}
use Rattle.gen1_tables.specs.declared.effect.Effect.TheVariants as effects
use Rattle.gen1_tables.specs.Moves.{move_row, move_rows}
use Rattle.gen1_tables.specs.Types.{number_of}
use Rattle.gen1_machine.specs.declared.side.UsedMove.{UsedMove}
use Rattle.gen1_machine.specs.declared.side.UsedMove.TheVariants.{Nothing, Slot, Struggle}
use Rattle.gen1_machine.specs.Rules.{rules_of}
use Rattle.gen1_machine.specs.Conditions.{Storing}
use Rattle.gen1_machine.specs.Layout.{active_block, condition_bits, conditions_number, disabled_slot, disabled_turns, energy_of, high_byte, low_byte, member_block, member_blocks, turns_byte, turns_of, used_byte}
use Rattle.gen1_machine.specs.Valid.{effect_of, IsActive, IsCount, IsDisabled, IsKept, IsMemberUnder, IsMembersUnder, IsStoring, IsUsedMove, KeepsAccuracy}
use Rattle.gen1_layout.specs.Loading.{active_bytes, long, member_bytes, word, places_of, effect_in, effect_of_number, has, CountFits, DisabledFits, HoldsMove, PassesActive, PassesOut, PassesUnderway, TurnsFit, UsedFits}
use Rattle.gen1_layout.specs.LoadingLaws.{ActivesStand, beside_stats, out_of, AreBytes, StandsForActive}
use Rattle.gen1_layout.proofs.LoadingBlocks.{bit_back, bits_17, bits_17-low, four_back, listed, part_bytes, part_length, two_back, two_high, two_low, held, holds, known_slot}
use Rattle.gen1_layout.proofs.LoadingLaws.{split_stats, with_stats}

-- Types

record HasElement (byte : ℕ) : Type 0 where
  pub element : Element
  pub same : byte ≡ number_of element

element_of : (byte : ℕ) → byte ≤ 14 → HasElement byte
element_of zero low = record { element = Normal; same = refl }
element_of (suc zero) low = record { element = Fighting; same = refl }
element_of (suc (suc zero)) low = record { element = Flying; same = refl }
element_of (suc (suc (suc zero))) low = record { element = Poison; same = refl }
element_of (suc (suc (suc (suc zero)))) low = record { element = Ground; same = refl }
element_of (suc (suc (suc (suc (suc zero))))) low = record { element = Rock; same = refl }
element_of (suc (suc (suc (suc (suc (suc zero)))))) low = record { element = Bug; same = refl }
element_of (suc (suc (suc (suc (suc (suc (suc zero))))))) low = record { element = Ghost; same = refl }
element_of (suc (suc (suc (suc (suc (suc (suc (suc zero)))))))) low = record { element = Fire; same = refl }
element_of (suc (suc (suc (suc (suc (suc (suc (suc (suc zero))))))))) low = record { element = Water; same = refl }
element_of (suc (suc (suc (suc (suc (suc (suc (suc (suc (suc zero)))))))))) low = record { element = Grass; same = refl }
element_of (suc (suc (suc (suc (suc (suc (suc (suc (suc (suc (suc zero))))))))))) low = record { element = Electric; same = refl }
element_of (suc (suc (suc (suc (suc (suc (suc (suc (suc (suc (suc (suc zero)))))))))))) low = record { element = Psychic; same = refl }
element_of (suc (suc (suc (suc (suc (suc (suc (suc (suc (suc (suc (suc (suc zero))))))))))))) low = record { element = Ice; same = refl }
element_of (suc (suc (suc (suc (suc (suc (suc (suc (suc (suc (suc (suc (suc (suc zero)))))))))))))) low = record { element = Dragon; same = refl }
element_of (suc (suc (suc (suc (suc (suc (suc (suc (suc (suc (suc (suc (suc (suc (suc more))))))))))))))) low = absurd (omega arith)

number_of-low : (e : Element) → number_of e ≤ 14
number_of-low Normal = omega arith
number_of-low Fighting = omega arith
number_of-low Flying = omega arith
number_of-low Poison = omega arith
number_of-low Ground = omega arith
number_of-low Rock = omega arith
number_of-low Bug = omega arith
number_of-low Ghost = omega arith
number_of-low Fire = omega arith
number_of-low Water = omega arith
number_of-low Grass = omega arith
number_of-low Electric = omega arith
number_of-low Psychic = omega arith
number_of-low Ice = omega arith
number_of-low Dragon = omega arith

-- Counts

record HasCount (on : Bool) (low high count : ℕ) : Type 0 where
  pub option : Option ℕ
  pub valid : IsCount low high option
  pub there : is_some option ≡ on
  pub same : count ≡ unwrap_or option 0

count_of : (on : Bool) (low high count : ℕ) → CountFits on low high count → HasCount on low high count
count_of true low high count fits = record { option = Some count; valid = fits; there = refl; same = refl }
count_of false low high count fits = record { option = None; valid = tt; there = refl; same = fits }

count_back : (option : Option ℕ) (low high : ℕ) → IsCount low high option → CountFits (is_some option) low high (unwrap_or option 0)
count_back None low high valid = refl
count_back (Some n) low high valid = valid

-- What is underway

record HasProgress (bide thrash trapping : Bool) (turns energy : ℕ) : Type 0 where
  pub storing : Option Storing
  pub thrashing : Option ℕ
  pub trapped : Option ℕ
  pub bide_valid : IsStoring storing
  pub thrash_valid : IsCount 1 3 thrashing
  pub trapping_valid : IsCount 0 4 trapped
  pub bide_there : is_some storing ≡ bide
  pub thrash_there : is_some thrashing ≡ thrash
  pub trapping_there : is_some trapped ≡ trapping
  pub turns_same : turns ≡ turns_byte storing thrashing trapped
  pub energy_same : energy ≡ energy_of storing

few_turns : (turns : ℕ) → IsBetween 1 3 turns → IsBetween 0 4 turns
few_turns turns range = let high = range.1 in (omega arith, omega arith)

progress_of : (bide thrash trapping : Bool) (turns energy : ℕ) → TurnsFit (bide || thrash) trapping turns → CountFits bide 0 65535 energy
    → HasProgress bide thrash trapping turns energy
progress_of true true true turns energy fit most = record {
  storing = Some (record { turns = turns; energy = energy });
  thrashing = Some turns;
  trapped = Some turns;
  bide_valid = (fit, most.1);
  thrash_valid = fit;
  trapping_valid = few_turns turns fit;
  bide_there = refl;
  thrash_there = refl;
  trapping_there = refl;
  turns_same = refl;
  energy_same = refl;
}
progress_of true true false turns energy fit most = record {
  storing = Some (record { turns = turns; energy = energy });
  thrashing = Some turns;
  trapped = None;
  bide_valid = (fit, most.1);
  thrash_valid = fit;
  trapping_valid = tt;
  bide_there = refl;
  thrash_there = refl;
  trapping_there = refl;
  turns_same = refl;
  energy_same = refl;
}
progress_of true false true turns energy fit most = record {
  storing = Some (record { turns = turns; energy = energy });
  thrashing = None;
  trapped = Some turns;
  bide_valid = (fit, most.1);
  thrash_valid = tt;
  trapping_valid = few_turns turns fit;
  bide_there = refl;
  thrash_there = refl;
  trapping_there = refl;
  turns_same = refl;
  energy_same = refl;
}
progress_of true false false turns energy fit most = record {
  storing = Some (record { turns = turns; energy = energy });
  thrashing = None;
  trapped = None;
  bide_valid = (fit, most.1);
  thrash_valid = tt;
  trapping_valid = tt;
  bide_there = refl;
  thrash_there = refl;
  trapping_there = refl;
  turns_same = refl;
  energy_same = refl;
}
progress_of false true true turns energy fit none = record {
  storing = None;
  thrashing = Some turns;
  trapped = Some turns;
  bide_valid = tt;
  thrash_valid = fit;
  trapping_valid = few_turns turns fit;
  bide_there = refl;
  thrash_there = refl;
  trapping_there = refl;
  turns_same = refl;
  energy_same = none;
}
progress_of false true false turns energy fit none = record {
  storing = None;
  thrashing = Some turns;
  trapped = None;
  bide_valid = tt;
  thrash_valid = fit;
  trapping_valid = tt;
  bide_there = refl;
  thrash_there = refl;
  trapping_there = refl;
  turns_same = refl;
  energy_same = none;
}
progress_of false false true turns energy fit none = record {
  storing = None;
  thrashing = None;
  trapped = Some turns;
  bide_valid = tt;
  thrash_valid = tt;
  trapping_valid = fit;
  bide_there = refl;
  thrash_there = refl;
  trapping_there = refl;
  turns_same = refl;
  energy_same = none;
}
progress_of false false false turns energy fit none = record {
  storing = None;
  thrashing = None;
  trapped = None;
  bide_valid = tt;
  thrash_valid = tt;
  trapping_valid = tt;
  bide_there = refl;
  thrash_there = refl;
  trapping_there = refl;
  turns_same = fit;
  energy_same = none;
}

turns_back : (storing : Option Storing) (thrash trapping : Option ℕ) → IsStoring storing → IsCount 1 3 thrash → IsCount 0 4 trapping
    → TurnsFit (is_some storing || is_some thrash) (is_some trapping) (turns_byte storing thrash trapping)
turns_back (Some b) thrash trapping bide_valid thrash_valid trapping_valid = bide_valid.0
turns_back None (Some n) trapping bide_valid thrash_valid trapping_valid = thrash_valid
turns_back None None None bide_valid thrash_valid trapping_valid = refl
turns_back None None (Some n) bide_valid thrash_valid trapping_valid = trapping_valid

energy_back : (storing : Option Storing) → IsStoring storing → CountFits (is_some storing) 0 65535 (energy_of storing)
energy_back None valid = refl
energy_back (Some b) valid = (omega arith, valid.1)

energy-low : (storing : Option Storing) → IsStoring storing → energy_of storing ≤ 65535
energy-low None valid = omega arith
energy-low (Some b) valid = valid.1

-- The kept accuracy

kept_of : (keeps : Bool) (byte : ℕ) → CountFits keeps 1 255 byte → IsKept keeps byte
kept_of true byte fits = fits.0
kept_of false byte fits = fits

kept_back : (keeps : Bool) (byte : ℕ) → byte ≤ 255 → IsKept keeps byte → CountFits keeps 1 255 byte
kept_back true byte low kept = (kept, low)
kept_back false byte low kept = kept

-- Slots and used moves

-- The number in a slot of a member's bytes.
slot_number : (m : Member) (slot : ℕ) → IsBetween 1 4 slot → slice_index (member_block m) (14 + slot) ≡ (known_in slot m.moves).id
slot_number m zero range = absurd (let low = range.0 in omega arith)
slot_number m (suc zero) range = refl
slot_number m (suc (suc zero)) range = refl
slot_number m (suc (suc (suc zero))) range = refl
slot_number m (suc (suc (suc (suc zero)))) range = refl
slot_number m (suc (suc (suc (suc (suc more))))) range = absurd (let high = range.1 in omega arith)

-- A slot that holds a move is one of the moves.
holds_from : (m : Member) (slot : ℕ) → HoldsMove (member_block m) slot → IsBetween 1 (length m.moves) slot
holds_from m slot holds = (holds.0.0, known_slot slot m.moves holds.0.0 (λ none. holds.1 (slot_number m slot holds.0 ∙ none)))

-- The number of a move that a member knows.
known_range : (rules : ℕ) (m : Member) (slot : ℕ) → IsMemberUnder (rules_of rules) m → IsBetween 1 (length m.moves) slot
    → IsBetween 1 165 (known_in slot m.moves).id
known_range rules m slot valid range =
    let low = range.0 in
    let high = range.1 in
    valid.moves (slot - 1) record { id = 0; pp = 0 } (omega arith)

holds_back : (rules : ℕ) (m : Member) (slot : ℕ) → IsMemberUnder (rules_of rules) m → IsBetween 1 (length m.moves) slot
    → HoldsMove (member_block m) slot
holds_back rules m slot valid range =
    let low = range.0 in
    let high = range.1 in
    let most = valid.numbers.slots.1 in
    let four : IsBetween 1 4 slot = (low, omega arith) in
    let number = known_range rules m slot valid range in
    (four, λ none. let some = number.0 in let is : (known_in slot m.moves).id ≡ 0 = sym (slot_number m slot four) ∙ none in omega arith)

-- Effects

no_effect : (move_row 0).effect ≡ effects.DamageOnly
unfolding move_row move_rows
no_effect = refl

struggle_effect : (move_row 165).effect ≡ effects.Recoil
unfolding move_row move_rows
struggle_effect = refl

-- Neither effect keeps anything underway.
no_ties : (block : List ℕ) → PassesUnderway effects.DamageOnly block → PassesUnderway effects.Recoil block
no_ties block p = record {
  bide = p.bide;
  thrash = p.thrash;
  trapping = p.trapping;
  charging = p.charging;
  recharge = p.recharge;
  rage = p.rage;
}

no_ties_back : (block : List ℕ) → PassesUnderway effects.Recoil block → PassesUnderway effects.DamageOnly block
no_ties_back block p = record {
  bide = p.bide;
  thrash = p.thrash;
  trapping = p.trapping;
  charging = p.charging;
  recharge = p.recharge;
  rage = p.rage;
}

between : (low high n : ℕ) → IsBetween low high n → (nat_le low n && nat_le n high) ≡ true
between low high n range = let least = range.0 in let most = range.1 in grind (arith, nat_tests)

slot_effect : (rules : ℕ) (m : Member) (slot : ℕ) → IsMemberUnder (rules_of rules) m → IsBetween 1 (length m.moves) slot
    → effect_in (member_block m) slot ≡ (move_row (known_in slot m.moves).id).effect
slot_effect rules m slot valid range =
    let high = range.1 in
    let most = valid.numbers.slots.1 in
    let four : IsBetween 1 4 slot = (range.0, omega arith) in
    let is : (if nat_le 1 slot && nat_le slot 4 then slice_index (member_block m) (14 + slot) else 0) ≡ (known_in slot m.moves).id =
    rw (between 1 4 slot four) (slot_number m slot four) in
    let known : effect_of_number (known_in slot m.moves).id ≡ (move_row (known_in slot m.moves).id).effect =
    rw (between 1 165 (known_in slot m.moves).id (known_range rules m slot valid range)) refl in
    ap effect_of_number is ∙ known

record HasUsed (m : Member) (byte : ℕ) : Type 0 where
  pub used : UsedMove
  pub valid : IsUsedMove (length m.moves) used
  pub same : byte ≡ used_byte used
  pub ties : (block : List ℕ) → PassesUnderway (effect_in (member_block m) byte) block → PassesUnderway (effect_of used m.moves) block

used_of : (rules : ℕ) (m : Member) (byte : ℕ) → IsMemberUnder (rules_of rules) m → UsedFits (member_block m) byte → HasUsed m byte
used_of rules m byte valid (inl is) = record {
  used = Nothing;
  valid = tt;
  same = is;
  ties = λ block p.
      subst (λ e. PassesUnderway e block) (sym no_effect) (subst (λ b. PassesUnderway (effect_in (member_block m) b) block) is p);
}
used_of rules m byte valid (inr (inl is)) = record {
  used = Struggle;
  valid = tt;
  same = is;
  ties = λ block p.
      subst (λ e. PassesUnderway e block) (sym struggle_effect)
      (no_ties block (subst (λ b. PassesUnderway (effect_in (member_block m) b) block) is p));
}
used_of rules m byte valid (inr (inr holds)) = record {
  used = Slot byte;
  valid = holds_from m byte holds;
  same = refl;
  ties = λ block p. subst (λ e. PassesUnderway e block) (slot_effect rules m byte valid (holds_from m byte holds)) p;
}

used_back : (rules : ℕ) (m : Member) (used : UsedMove) → IsMemberUnder (rules_of rules) m → IsUsedMove (length m.moves) used
    → UsedFits (member_block m) (used_byte used)
used_back rules m Nothing valid is = inl refl
used_back rules m (Slot k) valid is = inr (inr (holds_back rules m k valid is))
used_back rules m Struggle valid is = inr (inl refl)

ties_back : (rules : ℕ) (m : Member) (used : UsedMove) (block : List ℕ) → IsMemberUnder (rules_of rules) m → IsUsedMove (length m.moves) used
    → PassesUnderway (effect_of used m.moves) block → PassesUnderway (effect_in (member_block m) (used_byte used)) block
ties_back rules m Nothing block valid is p = subst (λ e. PassesUnderway e block) no_effect p
ties_back rules m (Slot k) block valid is p = subst (λ e. PassesUnderway e block) (sym (slot_effect rules m k valid is)) p
ties_back rules m Struggle block valid is p = no_ties_back block (subst (λ e. PassesUnderway e block) struggle_effect p)

record HasDisabled (on : Bool) (m : Member) (slot turns : ℕ) : Type 0 where
  pub option : Option DisabledSlot
  pub valid : IsDisabled (length m.moves) option
  pub there : is_some option ≡ on
  pub slot_same : slot ≡ disabled_slot option
  pub turns_same : turns ≡ disabled_turns option

disabled_of : (on : Bool) (m : Member) (slot turns : ℕ) → DisabledFits on (member_block m) slot turns → HasDisabled on m slot turns
disabled_of true m slot turns fits = record {
  option = Some (record { slot = slot; turns = turns });
  valid = (holds_from m slot fits.0, fits.1);
  there = refl;
  slot_same = refl;
  turns_same = refl;
}
disabled_of false m slot turns fits = record { option = None; valid = tt; there = refl; slot_same = fits.0; turns_same = fits.1 }

disabled_back : (rules : ℕ) (m : Member) (option : Option DisabledSlot) → IsMemberUnder (rules_of rules) m → IsDisabled (length m.moves) option
    → DisabledFits (is_some option) (member_block m) (disabled_slot option) (disabled_turns option)
disabled_back rules m None known valid = (refl, refl)
disabled_back rules m (Some d) known valid = (holds_back rules m d.slot known valid.0, valid.1)

-- The block

-- An active block from its parts.
abbrev active_with : ℕ → Element → Element → ℕ → ℕ → ℕ → ℕ → ℕ → ℕ → UsedMove → UsedMove → ℕ → ActiveConditions → Active
active_with place first second attack defense speed special accuracy evasion current_move picked_move kept conditions = record {
  place = place;
  first_type = first;
  second_type = second;
  stages = record { attack = attack; defense = defense; speed = speed; special = special; accuracy = accuracy; evasion = evasion };
  attack_penalties = 0;
  speed_penalties = 0;
  current_move = current_move;
  picked_move = picked_move;
  kept_accuracy = kept;
  conditions = conditions;
}

beside_same : (m : Member) (first second : Element) (current_move picked_move : UsedMove) (c : ActiveConditions) (x0 x1 x2 x3 x4 x5 x6 x7 x8 x17 x18 x19 x20 x21 x22 x23 x24 x25 x26 x27 x28 x29 x30 x31 x32 x33 x34 x35 : ℕ)
    → x1 ≡ number_of first → x2 ≡ number_of second
    → x17 ≡ low_byte (conditions_number c) → x18 ≡ high_byte (conditions_number c)
    → x19 ≡ low_byte (conditions_number c / 65536) → x20 ≡ high_byte (conditions_number c / 65536)
    → x21 ≡ unwrap_or c.substitute 0 → x22 ≡ unwrap_or c.confused 0 → x23 ≡ disabled_slot c.disabled → x24 ≡ disabled_turns c.disabled
    → x25 ≡ unwrap_or c.bad_poison 0 → x26 ≡ turns_of c.underway → x27 ≡ low_byte (energy_of c.underway.bide) → x28 ≡ high_byte (energy_of c.underway.bide)
    → x29 ≡ used_byte current_move → x30 ≡ used_byte picked_move → x32 ≡ 0 → x33 ≡ 0 → x34 ≡ 0 → x35 ≡ 0
    → x0 ∷ x1 ∷ x2 ∷ x3 ∷ x4 ∷ x5 ∷ x6 ∷ x7 ∷ x8 ∷ x17 ∷ x18 ∷ x19 ∷ x20 ∷ x21 ∷ x22 ∷ x23 ∷ x24 ∷ x25 ∷ x26 ∷ x27 ∷ x28 ∷ x29 ∷ x30 ∷ x31 ∷ x32 ∷ x33 ∷ x34 ∷ x35 ∷ [] ≡ beside_stats (active_block m (active_with x0 first second x3 x4 x5 x6 x7 x8 current_move picked_move x31 c))
beside_same m first second current_move picked_move c x0 x1 x2 x3 x4 x5 x6 x7 x8 x17 x18 x19 x20 x21 x22 x23 x24 x25 x26 x27 x28 x29 x30 x31 x32 x33 x34 x35 e1 e2 e17 e18 e19 e20 e21 e22 e23 e24 e25 e26 e27 e28 e29 e30 e32 e33 e34 e35 =
    rw (e1, e2, e17, e18, e19, e20, e21, e22, e23, e24, e25, e26, e27, e28, e29, e30, e32, e33, e34, e35) refl

long_0 : (a b c d : ℕ) → a < 256 → (a + 256 * b + 65536 * (c + 256 * d)) % 256 ≡ a
long_0 a b c d low = omega arith

long_1 : (a b c d : ℕ) → a < 256 → b < 256 → (a + 256 * b + 65536 * (c + 256 * d)) / 256 % 256 ≡ b
long_1 a b c d low next = omega arith

long_2 : (a b c d : ℕ) → a < 256 → b < 256 → c < 256 → (a + 256 * b + 65536 * (c + 256 * d)) / 65536 % 256 ≡ c
long_2 a b c d low next third = omega arith

long_3 : (a b c d : ℕ) → a < 256 → b < 256 → c < 256 → d < 256 → (a + 256 * b + 65536 * (c + 256 * d)) / 65536 / 256 % 256 ≡ d
long_3 a b c d low next third last = omega arith

-- From bytes to a block

record HasActive (m : Member) (block : List ℕ) : Type 0 where
  pub active : Active
  pub place : active.place ≡ slice_index block 0
  pub valid : IsActive m.moves active
  pub kept : KeepsAccuracy active
  pub same : beside_stats block ≡ beside_stats (active_block m active)

out_made : (rules : ℕ) (m : Member) (block : List ℕ) → length block ≡ 36 → AreBytes block → IsMemberUnder (rules_of rules) m
    → PassesOut (member_block m) block → HasActive m block
out_made rules m block full fit known q =
    let b : ℕ → ℕ = λ k. slice_index block k in
    let n : ℕ = long block 17 in
    let first = element_of (b 1) q.fixed.first_type in
    let second = element_of (b 2) q.fixed.second_type in
    let pr = progress_of (has 0 block) (has 1 block) (has 2 block) (b 26) (word block 27) q.progress.turns q.progress.energy in
    let sb = count_of (has 9 block) 0 249 (b 21) q.counts.substitute in
    let cf = count_of (has 6 block) 1 5 (b 22) q.counts.confused in
    let bp = count_of (has 13 block) 0 64 (b 25) q.counts.bad_poison in
    let ds = disabled_of (has 16 block) m (b 23) (b 24) q.counts.disabled in
    let cu = used_of rules m (b 29) known q.current_move in
    let pk = used_of rules m (b 30) known q.picked_move in
    let c : ActiveConditions = record {
      underway = record {
        bide = pr.storing;
        thrash = pr.thrashing;
        trapping = pr.trapped;
        charging = has 4 block;
        recharge = has 10 block;
        rage = has 11 block;
      };
      flinch = has 3 block;
      invulnerable = has 5 block;
      confused = cf.option;
      mist = has 7 block;
      focus_energy = has 8 block;
      substitute = sb.option;
      seeded = has 12 block;
      bad_poison = bp.option;
      light_screen = has 14 block;
      reflect = has 15 block;
      disabled = ds.option;
    } in
    let cn : conditions_number c ≡ n =
    rw (pr.bide_there, pr.thrash_there, pr.trapping_there, cf.there, sb.there, bp.there, ds.there) (bits_17 n q.fixed.conditions) in
    let t = cu.ties block q.underway in
    let rest = q.fixed.rest in
    let kept_byte = fit 31 in
    let f17 = fit 17 in
    let f18 = fit 18 in
    let f19 = fit 19 in
    let f20 = fit 20 in
    let f27 = fit 27 in
    let f28 = fit 28 in
    record {
      active = active_with (b 0) first.element second.element (b 3) (b 4) (b 5) (b 6) (b 7) (b 8) cu.used pk.used (b 31) c;
      place = refl;
      valid = record {
        stages = record {
          attack = q.fixed.stages.attack;
          defense = q.fixed.stages.defense;
          speed = q.fixed.stages.speed;
          special = q.fixed.stages.special;
          accuracy = q.fixed.stages.accuracy;
          evasion = q.fixed.stages.evasion;
        };
        current_move = cu.valid;
        picked_move = pk.valid;
        kept_accuracy = omega arith;
        conditions = record {
          underway = record {
            bide = pr.bide_valid;
            thrash = pr.thrash_valid;
            trapping = pr.trapping_valid;
            bide_tied = λ is. t.bide (sym pr.bide_there ∙ is);
            thrash_tied = λ is. t.thrash (sym pr.thrash_there ∙ is);
            trapping_tied = λ is. t.trapping (sym pr.trapping_there ∙ is);
            charging_tied = t.charging;
            recharge_tied = t.recharge;
            rage_tied = t.rage;
          };
          confused = cf.valid;
          substitute = sb.valid;
          bad_poison = bp.valid;
          disabled = ds.valid;
        };
      };
      kept =
          subst (λ (on : Bool). IsKept (has 11 block || on) (b 31)) (sym pr.thrash_there)
          (kept_of (has 11 block || has 1 block) (b 31) q.progress.kept);
      same =
          ap beside_stats (listed 36 block full)
          ∙ beside_same m first.element second.element cu.used pk.used c (b 0) (b 1) (b 2) (b 3) (b 4) (b 5) (b 6) (b 7) (b 8) (b 17) (b 18) (b 19) (b 20) (b 21) (b 22) (b 23) (b 24) (b 25) (b 26) (b 27) (b 28) (b 29) (b 30) (b 31) (b 32) (b 33) (b 34) (b 35) first.same second.same
          (sym (ap (λ (v : ℕ). v % 256) cn ∙ long_0 (b 17) (b 18) (b 19) (b 20) f17))
          (sym (ap (λ (v : ℕ). v / 256 % 256) cn ∙ long_1 (b 17) (b 18) (b 19) (b 20) f17 f18))
          (sym (ap (λ (v : ℕ). v / 65536 % 256) cn ∙ long_2 (b 17) (b 18) (b 19) (b 20) f17 f18 f19))
          (sym (ap (λ (v : ℕ). v / 65536 / 256 % 256) cn ∙ long_3 (b 17) (b 18) (b 19) (b 20) f17 f18 f19 f20)) sb.same cf.same
          ds.slot_same ds.turns_same bp.same pr.turns_same
          (sym (two_low (b 27) (b 28) f27) ∙ ap (λ (v : ℕ). v % 256) pr.energy_same)
          (sym (two_high (b 27) (b 28) f27 f28) ∙ ap (λ (v : ℕ). v / 256 % 256) pr.energy_same) cu.same pk.same (omega arith) (omega arith)
          (omega arith) (omega arith);
    }

pub first_of_block : (side : List ℕ) → slice_index (active_bytes side) 0 ≡ slice_index side 144
first_of_block side = get_or-take 36 (drop 144 side) 0 0 (omega arith) ∙ get_or-drop 144 side 0 0

actives_from : (rules : ℕ) (side : List ℕ) (members : List Member) → length side ≡ 180 → AreBytes side → IsMembersUnder (rules_of rules) members
    → places_of side ≡ member_blocks members → PassesActive side → StandsForActive members side
actives_from rules side members full fit valid same p =
    let place : ℕ = slice_index side 144 in
    let low = p.place.0 in
    let h = held side members place same p.place p.member in
    let high = h.0 in
    let m : Member = slice_index_or members (place - 1) nobody in
    let known : IsMemberUnder (rules_of rules) m = valid.each (place - 1) nobody (omega arith) in
    let q : PassesOut (member_block m) (active_bytes side) = subst (λ (l : List ℕ). PassesOut l (active_bytes side)) h.1 p.out in
    let made = out_made rules m (active_bytes side) (part_length 144 36 side (omega arith)) (part_bytes 144 36 side fit) known q in
    let is : place ≡ made.active.place = sym (made.place ∙ first_of_block side) in
    record {
      active = made.active;
      place = subst (λ (at : ℕ). IsBetween 1 (length members) at) is (low, high);
      valid = subst (λ (at : ℕ). IsActive (slice_index_or members (at - 1) nobody).moves made.active) is made.valid;
      kept = made.kept;
      same =
          subst (λ (at : ℕ). beside_stats (active_bytes side) ≡ beside_stats (active_block (slice_index_or members (at - 1) nobody) made.active)) is
          made.same;
    }

-- From a block to bytes

out_back : (rules : ℕ) (m : Member) (a : Active) (s9 s10 s11 s12 s13 s14 s15 s16 : ℕ) → IsMemberUnder (rules_of rules) m → IsActive m.moves a
    → KeepsAccuracy a → PassesOut (member_block m) (with_stats (beside_stats (active_block m a)) s9 s10 s11 s12 s13 s14 s15 s16)
out_back rules m a s9 s10 s11 s12 s13 s14 s15 s16 known valid kept =
    let block : List ℕ = with_stats (beside_stats (active_block m a)) s9 s10 s11 s12 s13 s14 s15 s16 in
    let c : ActiveConditions = a.conditions in
    let u = valid.conditions.underway in
    let n : ℕ = conditions_number c in
    let small : n < 131072 = bits_17-low (condition_bits c) refl in
    let four : long block 17 ≡ n = four_back n small in
    let flag : (k : ℕ) → has k block ≡ slice_index_or (condition_bits c) k false =
    λ k. ap (λ (v : ℕ). bit_at v k == 1) four ∙ bit_back (condition_bits c) k in
    let stored : word block 27 ≡ energy_of c.underway.bide =
    two_back (energy_of c.underway.bide) (let high = energy-low c.underway.bide u.bide in omega arith) in
    record {
      fixed = record {
        first_type = number_of-low a.first_type;
        second_type = number_of-low a.second_type;
        stages = record {
          attack = valid.stages.attack;
          defense = valid.stages.defense;
          speed = valid.stages.speed;
          special = valid.stages.special;
          accuracy = valid.stages.accuracy;
          evasion = valid.stages.evasion;
        };
        conditions = subst (λ (v : ℕ). v < 131072) (sym four) small;
        rest = refl;
      };
      counts = record {
        substitute =
            subst (λ (on : Bool). CountFits on 0 249 (unwrap_or c.substitute 0)) (sym (flag 9)) (count_back c.substitute 0 249 valid.conditions.substitute);
        confused = subst (λ (on : Bool). CountFits on 1 5 (unwrap_or c.confused 0)) (sym (flag 6)) (count_back c.confused 1 5 valid.conditions.confused);
        disabled =
            subst (λ (on : Bool). DisabledFits on (member_block m) (disabled_slot c.disabled) (disabled_turns c.disabled)) (sym (flag 16))
            (disabled_back rules m c.disabled known valid.conditions.disabled);
        bad_poison =
            subst (λ (on : Bool). CountFits on 0 64 (unwrap_or c.bad_poison 0)) (sym (flag 13)) (count_back c.bad_poison 0 64 valid.conditions.bad_poison);
      };
      progress = record {
        turns =
            subst (λ (on : Bool). TurnsFit (on || has 1 block) (has 2 block) (turns_of c.underway)) (sym (flag 0))
            (subst (λ (on : Bool). TurnsFit (is_some c.underway.bide || on) (has 2 block) (turns_of c.underway)) (sym (flag 1))
            (subst (λ (on : Bool). TurnsFit (is_some c.underway.bide || is_some c.underway.thrash) on (turns_of c.underway)) (sym (flag 2))
            (turns_back c.underway.bide c.underway.thrash c.underway.trapping u.bide u.thrash u.trapping)));
        energy =
            subst (λ (on : Bool). CountFits on 0 65535 (word block 27)) (sym (flag 0))
            (subst (λ (v : ℕ). CountFits (is_some c.underway.bide) 0 65535 v) (sym stored) (energy_back c.underway.bide u.bide));
        kept =
            subst (λ (on : Bool). CountFits (on || has 1 block) 1 255 a.kept_accuracy) (sym (flag 11))
            (subst (λ (on : Bool). CountFits (c.underway.rage || on) 1 255 a.kept_accuracy) (sym (flag 1))
            (kept_back (c.underway.rage || is_some c.underway.thrash) a.kept_accuracy valid.kept_accuracy kept));
      };
      current_move = used_back rules m a.current_move known valid.current_move;
      picked_move = used_back rules m a.picked_move known valid.picked_move;
      underway =
          ties_back rules m a.current_move block known valid.current_move
          record {
            bide = λ on. u.bide_tied (sym (flag 0) ∙ on);
            thrash = λ on. u.thrash_tied (sym (flag 1) ∙ on);
            trapping = λ on. u.trapping_tied (sym (flag 2) ∙ on);
            charging = λ on. u.charging_tied (sym (flag 4) ∙ on);
            recharge = λ on. u.recharge_tied (sym (flag 10) ∙ on);
            rage = λ on. u.rage_tied (sym (flag 11) ∙ on);
          };
    }

actives_back : (rules : ℕ) (side : List ℕ) (members : List Member) → length side ≡ 180 → AreBytes side → IsMembersUnder (rules_of rules) members
    → places_of side ≡ member_blocks members → StandsForActive members side → PassesActive side
actives_back rules side members full fit valid same s =
    let a : Active = s.active in
    let m : Member = out_of members a in
    let low = s.place.0 in
    let high = s.place.1 in
    let few = valid.size.1 in
    let block : List ℕ = active_bytes side in
    let split = split_stats block (beside_stats (active_block m a)) (part_length 144 36 side (omega arith)) s.same in
    let is : slice_index side 144 ≡ a.place = sym (first_of_block side) ∙ ap (λ (l : List ℕ). slice_index l 0) split in
    let out : member_bytes (slice_index side 144) side ≡ member_block m =
    ap (λ (at : ℕ). member_bytes at side) is ∙ holds side members a.place same few s.place in
    let known : IsMemberUnder (rules_of rules) m = valid.each (a.place - 1) nobody (omega arith) in
    record {
      place = subst (λ (at : ℕ). IsBetween 1 6 at) (sym is) (low, omega arith);
      member = λ none.
          let some = known.species.0 in
          let none' : m.species ≡ 0 = sym (ap (λ (l : List ℕ). slice_index l 0) out) ∙ none in
          omega arith;
      out =
          subst (λ (l : List ℕ). PassesOut l block) (sym out)
          (subst (λ (l : List ℕ). PassesOut (member_block m) l) (sym split) (out_back rules m a (slice_index block 9) (slice_index block 10) (slice_index block 11) (slice_index block 12) (slice_index block 13) (slice_index block 14) (slice_index block 15) (slice_index block 16) known s.valid s.kept));
    }

pub actives_law : ActivesStand
actives_law rules side members full fit valid same =
    (actives_from rules side members full fit valid same, actives_back rules side members full fit valid same)
