-- The player's own side in a battle that fits: it is shown the same. Its public facts agree with sides that look the same.
use Rattle.std.proofs.Common.{Bool, List, [], ap, arith, false, get_or, inl, inr, is_some, length, map, refl, slice_index, slice_index_or, subst, suc, sym, true, unwrap_or, zero, ℕ, ◌%◌, ◌*◌, ◌+◌, ◌-◌, ◌/◌, ◌<◌, ◌==◌, ◌∙◌, ◌∷◌, ◌≡◌, ◌≢◌, ◌≤◌, ◌⊎◌, ◌||◌, cond, lit<, ◌&&◌}
use Rattle.std.proofs.Math.ListN.{get_or-map}
use Rattle.std.specs.Prelude.{nat_lt, if◌then◌else◌}
use Rattle.std.specs.Int.{bit_at}
use Rattle.std.proofs.lemmas.Bool.{false≢true}
use Rattle.std.proofs.lemmas.Nat.Bits.{bit_at-suc, bit_at-zero, bit_at_lowest}
use Rattle.std.proofs.lemmas.Bool.Decides.{eqb_tells, nat_tests}
use Rattle.gen1_tables.specs.Effects.{recharges}
use Rattle.gen1_tables.specs.Moves.{move_row, move_rows, struggle}
use Rattle.gen1_tables.specs.Types.{any, number_of}
use Rattle.gen1_stats.specs.declared.member.KnownMove.{KnownMove}
use Rattle.gen1_stats.specs.declared.member.Status.{Status}
use Rattle.gen1_stats.specs.declared.member.Status.TheVariants.{Asleep, Burned, Frozen, Healthy, Paralysed, Poisoned}
use Rattle.gen1_stats.specs.Members.{nobody, Member, is_living, is_marked}
use Rattle.gen1_machine.specs.Conditions.{ActiveConditions}
use Rattle.gen1_machine.specs.Moves.{move_at}
use Rattle.gen1_machine.specs.Layout.{condition_bits, number_of_bits, disabled_slot, outcome_byte, request_byte, used_byte}
use Rattle.gen1_machine.specs.LogBytes.{kind_or_0}
use Rattle.gen1_machine.specs.Rules.{bit_of, Rules}
use Rattle.gen1_machine.specs.State.{known_in, member_at, Party, active_in, conditions_in, member_in, party, request_of, underway_in, Active, Field, Stages, State, kind_of}
use Rattle.gen1_machine.specs.View.{shown, shown_at, side_shows, Shown}
use Rattle.gen1_player.specs.declared.own.OwnMember.{OwnMember}
use Rattle.gen1_player.specs.declared.public_side.PublicSide.{PublicSide}
use Rattle.gen1_player.specs.OwnSide.{own_conditions, own_member, OwnConditions, own_active, own_side, plain_member, is_present, nobody_out, plain_out, plain_side, shown_bits}
use Rattle.gen1_player.specs.declared.seen.Seen.{Seen}
use Rattle.gen1_player.specs.Public.{new_uses, seen_at}
use Rattle.gen1_player.specs.True.{current_move_of, knows, IsMoveOf, IsSeen, SideAgrees, SideDoes, SideHasAppeared, SideIsTold, IsAsleepBy, SideSleeps}
use Rattle.gen1_tables.specs.declared.effect.Stat.TheVariants.{Attack, Defense, Special, Speed}
use Rattle.gen1_machine.specs.declared.side.Side.{Side}
use Rattle.gen1_machine.specs.CurrentStats.{now}
use Rattle.gen1_machine.specs.Sides.{other}
use Rattle.gen1_machine.specs.Valid.{IsMembersUnder, IsParty, IsState, IsStatus}
use Rattle.gen1_layout.specs.Shows.{stats_of, blocks_of, Stands}
use Rattle.gen1_layout.proofs.Counts.{number_small}
use Rattle.gen1_layout.proofs.WaysBack.{hp_fits_at, now_fits, stats_fit_at}
use Rattle.gen1_player.specs.declared.own.OwnSide.{OwnSide}
use Rattle.gen1_player.specs.Player.{not_shown_member}
use Rattle.gen1_player.proofs.Fairness.{as_many, counted, have_species, shown_at as own_shown_at}
use Rattle.gen1_states.specs.Plain.{on, no_member}
use Rattle.gen1_states.specs.Tests.{are_left, completed_side, computed_stats, member_out}
use Rattle.gen1_states.specs.Laws.{IsPlainMember, IsPlainSide}
use Rattle.gen1_states.specs.Reading.{active_state as state_of_active, member_state, no_active, side_state, sleep_of as turns_of}
use Rattle.gen1_states.specs.declared.plain.ActiveState.{ActiveState}
use Rattle.gen1_states.specs.declared.plain.MemberState.{MemberState}
use Rattle.gen1_states.specs.declared.plain.SideState.{SideState}
use Rattle.gen1_states.proofs.ThereAndBack.{not_zero, packs_of}
use Rattle.gen1_guesses.specs.Forks.{used_slot, member_at as place_in, own_member as own_state, own_members, seen_in, mark_of, sleep_of, turns_left, own_part}
use Rattle.gen1_guesses.proofs.ForkedStates.{words, below_or, current_is, few_moves, past_six, Holds}

-- Conditions with the same number

pub bits_same : (cs bs : List Bool) → length cs ≡ length bs → number_of_bits cs ≡ number_of_bits bs → cs ≡ bs
bits_same [] [] long e = refl
bits_same [] (b ∷ bs) long e = absurd (omega (arith, long))
bits_same (a ∷ cs) [] long e = absurd (omega (arith, long))
bits_same (true ∷ cs) (true ∷ bs) long e = ap (λ (l : List Bool). true ∷ l) (bits_same cs bs (omega (arith, long)) (omega (arith, e)))
bits_same (false ∷ cs) (false ∷ bs) long e = ap (λ (l : List Bool). false ∷ l) (bits_same cs bs (omega (arith, long)) (omega (arith, e)))
bits_same (true ∷ cs) (false ∷ bs) long e = absurd (omega (arith, e))
bits_same (false ∷ cs) (true ∷ bs) long e = absurd (omega (arith, e))

-- Each bit is the one that the number was made from.

half : (b : Bool) (n : ℕ) → (bit_of b + 2 * n) / 2 ≡ n
half false n = omega arith
half true n = omega arith

lowest : (b : Bool) (n : ℕ) → ((bit_of b + 2 * n) % 2 == 1) ≡ b
lowest false n = let even : (0 + 2 * n) % 2 ≡ 0 = omega arith in rw even refl
lowest true n = let odd : (1 + 2 * n) % 2 ≡ 1 = omega arith in rw odd refl

pub bit_back : (bits : List Bool) (k : ℕ) → (bit_at (number_of_bits bits) k == 1) ≡ slice_index_or bits k false
bit_back [] k = rw (bit_at-zero k) refl
bit_back (b ∷ bits) zero = rw (bit_at_lowest (bit_of b + 2 * number_of_bits bits)) (lowest b (number_of_bits bits))
bit_back (b ∷ bits) (suc k) = rw (bit_at-suc (bit_of b + 2 * number_of_bits bits) k, half b (number_of_bits bits)) (bit_back bits k)

abbrev bit : ℕ → List Bool → Bool
bit k bits = get_or bits k false

abbrev pub conditions_from : List Bool → OwnConditions
conditions_from bits = record {
  bide = bit 0 bits;
  thrash = bit 1 bits;
  trapping = bit 2 bits;
  charging = bit 4 bits;
  invulnerable = bit 5 bits;
  confused = bit 6 bits;
  mist = bit 7 bits;
  focus_energy = bit 8 bits;
  substitute = bit 9 bits;
  recharge = bit 10 bits;
  rage = bit 11 bits;
  seeded = bit 12 bits;
  bad_poison = bit 13 bits;
  light_screen = bit 14 bits;
  reflect = bit 15 bits;
  disabled = bit 16 bits;
}

-- Two sides

-- A member as its own side is shown it.
abbrev pub looks : ℕ → Party → OwnMember
looks place t = plain_member (own_member (member_at place t))

pub record Alike (t u : Party) : Type 0 where
  pub place : t.active.place ≡ u.active.place
  pub stages : t.active.stages ≡ u.active.stages
  pub first_type : number_of t.active.first_type ≡ number_of u.active.first_type
  pub second_type : number_of t.active.second_type ≡ number_of u.active.second_type
  pub conditions : own_conditions t.active.conditions ≡ own_conditions u.active.conditions
  pub current : current_move_of t ≡ current_move_of u
  pub members : (place : ℕ) → looks place t ≡ looks place u
  pub few_first : (place : ℕ) → length (member_at place t).moves ≤ 4
  pub few_second : (place : ℕ) → length (member_at place u).moves ≤ 4

-- What shows

pub shows_at : (t : Party) (place : ℕ) → shown_at place (side_shows t) ≡ shown (member_at place t)
shows_at t place = get_or-map shown t.members (place - 1) nobody

looks_hp : (t u : Party) → Alike t u → (place : ℕ) → (shown_at place (side_shows t)).hp ≡ (shown_at place (side_shows u)).hp
looks_hp t u a place = ap (λ (m : Shown). m.hp) (shows_at t place) ∙ ap (λ (m : OwnMember). m.hp) (a.members place) ∙ sym (ap (λ (m : Shown). m.hp) (shows_at u place))

looks_kind : (t u : Party) → Alike t u → (place : ℕ) → kind_or_0 (shown_at place (side_shows t)).kind ≡ kind_or_0 (shown_at place (side_shows u)).kind
looks_kind t u a place = ap (λ (m : Shown). kind_or_0 m.kind) (shows_at t place) ∙ ap (λ (m : OwnMember). m.status) (a.members place) ∙ sym (ap (λ (m : Shown). kind_or_0 m.kind) (shows_at u place))

pub view-alike : (x : PublicSide) (t u : Party) → Alike t u → SideAgrees x (side_shows u) → SideAgrees x (side_shows t)
view-alike x t u a h = record {
  place = h.place ∙ sym a.place;
  stages = h.stages ∙ sym a.stages;
  substitute = h.substitute ∙ sym (ap (λ (c : OwnConditions). bit_of c.substitute) a.conditions);
  confused = h.confused ∙ sym (ap (λ (c : OwnConditions). bit_of c.confused) a.conditions);
  light_screen = h.light_screen ∙ sym (ap (λ (c : OwnConditions). bit_of c.light_screen) a.conditions);
  reflect = h.reflect ∙ sym (ap (λ (c : OwnConditions). bit_of c.reflect) a.conditions);
  members = λ place z. let m = h.members place z in (m.0 ∙ sym (looks_hp t u a place), m.1 ∙ sym (looks_kind t u a place));
}

pub lives-alike : (t u : Party) → Alike t u → is_living (member_at t.active.place t) ≡ true → is_living (member_at u.active.place u) ≡ true
lives-alike t u a z = sym (ap (λ (m : OwnMember). nat_lt 0 m.hp) (a.members t.active.place) ∙ ap (λ (place : ℕ). nat_lt 0 (looks place u).hp) a.place) ∙ z

-- Types and conditions

pub told-alike : (x : PublicSide) (t u : Party) → Alike t u → SideIsTold x u → SideIsTold x t
told-alike x t u a h = record {
  first_type = h.first_type ∙ sym a.first_type;
  second_type = h.second_type ∙ sym a.second_type;
  mist = h.mist ∙ sym (ap (λ (c : OwnConditions). bit_of c.mist) a.conditions);
  focus_energy = h.focus_energy ∙ sym (ap (λ (c : OwnConditions). bit_of c.focus_energy) a.conditions);
  disabled = h.disabled ∙ sym (ap (λ (c : OwnConditions). bit_of c.disabled) a.conditions);
  rage = h.rage ∙ sym (ap (λ (c : OwnConditions). bit_of c.rage) a.conditions);
  seeded = λ z. h.seeded (lives-alike t u a z) ∙ sym (ap (λ (c : OwnConditions). bit_of c.seeded) a.conditions);
}

-- What the active member does

pub does-alike : (x : PublicSide) (t u : Party) → Alike t u → (is_living (member_at t.active.place t) ≡ true → x.announced.toxic_count ≡ unwrap_or t.active.conditions.bad_poison 0)
    → SideDoes x u → SideDoes x t
does-alike x t u a count h = record {
  bide = h.bide ∙ sym (ap (λ (c : OwnConditions). bit_of c.bide) a.conditions);
  charging = h.charging ∙ sym (ap (λ (c : OwnConditions). bit_of c.charging) a.conditions);
  toxic = h.toxic ∙ sym (ap (λ (c : OwnConditions). bit_of c.bad_poison) a.conditions);
  toxic_count = count;
  invulnerable = λ z. ap (λ (c : OwnConditions). c.invulnerable) a.conditions ∙ h.invulnerable z;
  unused = h.unused;
  last_move = h.last_move ∙ sym a.current;
  recharge = λ z. h.recharge (sym (ap (λ (c : OwnConditions). c.recharge) a.conditions) ∙ z);
  rests = h.rests;
  uses = λ z. ap (λ (n : ℕ). new_uses n x) a.current ∙ h.uses (sym (ap (λ (c : OwnConditions). c.thrash || c.trapping || c.rage) a.conditions) ∙ z);
}

-- Members that have appeared

-- A test of the moves in four slots that fails of no move.
abbrev pub four : (ℕ → Bool) → List ℕ → Bool
four test ids = test (slice_index ids 0) || test (slice_index ids 1) || test (slice_index ids 2) || test (slice_index ids 3)

abbrev ids_of : Member → List ℕ
ids_of m = (plain_member (own_member m)).moves

one : (a : Bool) → (a || false) ≡ (a || false || false || false)
one true = refl
one false = refl

two : (a b : Bool) → (a || (b || false)) ≡ (a || b || false || false)
two true b = refl
two false true = refl
two false false = refl

three : (a b c : Bool) → (a || (b || (c || false))) ≡ (a || b || c || false)
three true b c = refl
three false true c = refl
three false false true = refl
three false false false = refl

each : (a b c d : Bool) → (a || (b || (c || (d || false)))) ≡ (a || b || c || d)
each true b c d = refl
each false true c d = refl
each false false true d = refl
each false false false true = refl
each false false false false = refl

pub any-four : (test : ℕ → Bool) → test 0 ≡ false → (m : Member) → length m.moves ≤ 4 → any (λ (k : KnownMove). test k.id) m.moves ≡ four test (ids_of m)
any-four test none m few = by m.moves few
  where
    by : (moves : List KnownMove) → length moves ≤ 4
        → any (λ (k : KnownMove). test k.id) moves ≡ (test (known_in 1 moves).id || test (known_in 2 moves).id || test (known_in 3 moves).id || test (known_in 4 moves).id)
    by [] h = rw none refl
    by (a ∷ []) h = rw none (one (test a.id))
    by (a ∷ b ∷ []) h = rw none (two (test a.id) (test b.id))
    by (a ∷ b ∷ c ∷ []) h = rw none (three (test a.id) (test b.id) (test c.id))
    by (a ∷ b ∷ c ∷ d ∷ []) h = each (test a.id) (test b.id) (test c.id) (test d.id)
    by (a ∷ b ∷ c ∷ d ∷ e ∷ more) h = absurd (omega (arith, h))

not_move_0 : (id : ℕ) → id ≢ 0 → (0 == id) ≡ false
not_move_0 id z = by (eqb_tells 0 id)
  where
    by : (((0 == id) ≡ true) × (0 ≡ id)) ⊎ (((0 == id) ≡ false) × (0 ≢ id)) → (0 == id) ≡ false
    by (inl e) = absurd (z (sym e.1))
    by (inr e) = e.0

-- One of the moves in four slots.
pub is-move : (m : Member) → length m.moves ≤ 4 → (id : ℕ) → (id ≢ 0 → (id ≡ struggle) ⊎ (four (λ (j : ℕ). j == id) (ids_of m) ≡ true)) → IsMoveOf m id
is-move m few id h z = by (h z)
  where
    by : (id ≡ struggle) ⊎ (four (λ (j : ℕ). j == id) (ids_of m) ≡ true) → (id ≡ struggle) ⊎ (any (λ (k : KnownMove). k.id == id) m.moves ≡ true)
    by (inl e) = inl e
    by (inr e) = inr (any-four (λ (j : ℕ). j == id) (not_move_0 id z) m few ∙ e)

pub move-is : (m : Member) → length m.moves ≤ 4 → (id : ℕ) → IsMoveOf m id → id ≢ 0 → (id ≡ struggle) ⊎ (four (λ (j : ℕ). j == id) (ids_of m) ≡ true)
move-is m few id h z = by (h z)
  where
    by : (id ≡ struggle) ⊎ (any (λ (k : KnownMove). k.id == id) m.moves ≡ true) → (id ≡ struggle) ⊎ (four (λ (j : ℕ). j == id) (ids_of m) ≡ true)
    by (inl e) = inl e
    by (inr e) = inr (sym (any-four (λ (j : ℕ). j == id) (not_move_0 id z) m few) ∙ e)

move-alike : (m n : Member) → ids_of m ≡ ids_of n → length m.moves ≤ 4 → length n.moves ≤ 4 → (id : ℕ) → IsMoveOf n id → IsMoveOf m id
move-alike m n e few_m few_n id h =
    is-move m few_m id (λ z. subst (λ (ids : List ℕ). (id ≡ struggle) ⊎ (four (λ (j : ℕ). j == id) ids ≡ true)) (sym e) (move-is n few_n id h z))

pub no_move_recharges : recharges (move_at 0).effect ≡ false
unfolding move_rows move_row
no_move_recharges = refl

-- A move for it isn't Struggle, so it is one of the member's own.
no_struggle_recharges : recharges (move_at struggle).effect ≡ false
unfolding move_rows move_row
no_struggle_recharges = refl

or_if : (a b c d : Bool) → (a ≡ true → c ≡ true) → (b ≡ true → d ≡ true) → (a || b) ≡ true → (c || d) ≡ true
or_if true b true d f g e = refl
or_if true b false d f g e = absurd (false≢true (f refl))
or_if false b true d f g e = refl
or_if false b false d f g e = g e

four_by : (test : ℕ → Bool) (id : ℕ) (ids : List ℕ) → test id ≡ true → four (λ (j : ℕ). j == id) ids ≡ true → four test ids ≡ true
four_by test id ids h = or_if _ _ _ _ (or_if _ _ _ _ (or_if _ _ _ _ (by (slice_index ids 0)) (by (slice_index ids 1))) (by (slice_index ids 2))) (by (slice_index ids 3))
  where
    by : (j : ℕ) → (j == id) ≡ true → test j ≡ true
    by j e = tells (eqb_tells j id)
      where
        tells : (((j == id) ≡ true) × (j ≡ id)) ⊎ (((j == id) ≡ false) × (j ≢ id)) → test j ≡ true
        tells (inl k) = ap test k.1 ∙ h
        tells (inr k) = absurd (false≢true (sym k.0 ∙ e))

pub knows_used : (m : Member) → length m.moves ≤ 4 → (id : ℕ) → IsMoveOf m id → recharges (move_at id).effect ≡ true → knows recharges m ≡ true
knows_used m few id h e = by (move-is m few id h (λ z. false≢true (sym (ap (λ (n : ℕ). recharges (move_at n).effect) z ∙ no_move_recharges) ∙ e)))
  where
    by : (id ≡ struggle) ⊎ (four (λ (j : ℕ). j == id) (ids_of m) ≡ true) → knows recharges m ≡ true
    by (inl z) = absurd (false≢true (sym (ap (λ (n : ℕ). recharges (move_at n).effect) z ∙ no_struggle_recharges) ∙ e))
    by (inr i) = any-four (λ (j : ℕ). recharges (move_at j).effect) no_move_recharges m few ∙ four_by (λ (j : ℕ). recharges (move_at j).effect) id (ids_of m) e i

knows-alike : (m n : Member) → ids_of m ≡ ids_of n → length m.moves ≤ 4 → length n.moves ≤ 4 → knows recharges n ≡ true → knows recharges m ≡ true
knows-alike m n e few_m few_n h =
    any-four (λ (j : ℕ). recharges (move_at j).effect) no_move_recharges m few_m ∙ ap (four (λ (j : ℕ). recharges (move_at j).effect)) e
    ∙ sym (any-four (λ (j : ℕ). recharges (move_at j).effect) no_move_recharges n few_n) ∙ h

seen-alike : (s : Seen) (m n : Member) → plain_member (own_member m) ≡ plain_member (own_member n) → length m.moves ≤ 4 → length n.moves ≤ 4 → IsSeen s n → IsSeen s m
seen-alike s m n e few_m few_n h = record {
  species = h.species ∙ sym (ap (λ (o : OwnMember). o.species) e);
  level = h.level ∙ sym (ap (λ (o : OwnMember). o.level) e);
  max = h.max ∙ sym (ap (λ (o : OwnMember). o.max_hp) e);
  moves = λ k d within. move-alike m n (ap (λ (o : OwnMember). o.moves) e) few_m few_n _ (h.moves k d within);
}

pub appeared-alike : (x : PublicSide) (t u : Party) → Alike t u → SideHasAppeared x u → SideHasAppeared x t
appeared-alike x t u a h =
    let out : plain_member (own_member (member_at t.active.place t)) ≡ plain_member (own_member (member_at u.active.place u)) =
    a.members t.active.place ∙ ap (λ (place : ℕ). looks place u) a.place in
    let ids = ap (λ (o : OwnMember). o.moves) out in
    record {
      out = h.out;
      each = λ place z. seen-alike (seen_at place x) (member_at place t) (member_at place u) (a.members place) (a.few_first place) (a.few_second place) (h.each place z);
      last_move = move-alike (member_at t.active.place t) (member_at u.active.place u) ids (a.few_first t.active.place) (a.few_second u.active.place) x.last_move h.last_move;
      recharging = λ z. knows-alike (member_at t.active.place t) (member_at u.active.place u) ids (a.few_first t.active.place) (a.few_second u.active.place) (h.recharging z);
    }

-- The own side of a battle that fits

-- What a side is shown of itself while it has a member out

pub record Shows (o : OwnSide) (s : Side) (f : Field) : Type 0 where
  pub members : (k : ℕ) → k < 6 → slice_index_or o.members k not_shown_member ≡ looks (k + 1) (party s f)
  pub conditions : o.conditions ≡ number_of_bits (shown_bits (own_conditions (conditions_in s f)))
  pub stats : o.stats ≡ stats_of (member_in s f) (active_in s f)
  pub place : o.place ≡ (active_in s f).place
  pub types : o.types ≡ number_of (active_in s f).first_type ∷ number_of (active_in s f).second_type ∷ []
  pub stages : o.stages ≡ (let g = (active_in s f).stages in g.attack ∷ g.defense ∷ g.speed ∷ g.special ∷ g.accuracy ∷ g.evasion ∷ [])
  pub slot : o.disabled_slot ≡ disabled_slot (conditions_in s f).disabled

members_shown : (s : Side) (f : Field) (k : ℕ) → k < 6 → slice_index_or (plain_side (own_side s f)).members k not_shown_member ≡ looks (k + 1) (party s f)
members_shown s f zero h = ap plain_member (own_shown_at (party s f).members 0)
members_shown s f (suc zero) h = ap plain_member (own_shown_at (party s f).members 1)
members_shown s f (suc (suc zero)) h = ap plain_member (own_shown_at (party s f).members 2)
members_shown s f (suc (suc (suc zero))) h = ap plain_member (own_shown_at (party s f).members 3)
members_shown s f (suc (suc (suc (suc zero)))) h = ap plain_member (own_shown_at (party s f).members 4)
members_shown s f (suc (suc (suc (suc (suc zero))))) h = ap plain_member (own_shown_at (party s f).members 5)
members_shown s f (suc (suc (suc (suc (suc (suc k)))))) h = absurd (omega (arith, h))

pub shows : (s : Side) (f : Field) → ((active_in s f).place == 0) ≡ false → Shows (plain_side (own_side s f)) s f
shows s f out =
    let a = own_active (member_in s f) (active_in s f) in
    record {
      members = members_shown s f;
      conditions = ap (λ (b : Bool). (cond b nobody_out (plain_out a)).conditions) out;
      stats = ap (λ (b : Bool). (cond b nobody_out (plain_out a)).stats) out;
      place = ap (λ (b : Bool). (cond b nobody_out (plain_out a)).place) out;
      types = ap (λ (b : Bool). (cond b nobody_out (plain_out a)).types) out;
      stages = ap (λ (b : Bool). (cond b nobody_out (plain_out a)).stages) out;
      slot = ap (λ (b : Bool). (cond b nobody_out (plain_out a)).disabled_slot) out;
    }

-- The plain side that is made of it

member_plain : (clause : Bool) (s : Seen) (q : OwnMember) (m : Member) → q ≡ plain_member (own_member m) → m.hp < 65536
    → (m.max < 65536) × (m.attack < 65536) × (m.defense < 65536) × (m.speed < 65536) × (m.special < 65536) → IsPlainMember (own_state clause s q)
member_plain clause s q m e hp fit = subst (λ (q : OwnMember). IsPlainMember (own_state clause s q)) (sym e) (record {
  moves = refl;
  pp = refl;
  stats = refl;
  hp = hp;
  max_hp = fit.0;
  words = words _ _ _ _ fit.1 fit.2 fit.3 fit.4;
})

-- A state of battle is represented by its own bytes.
stands_itself : (b : State) → IsState b → Stands (blocks_of b) b
stands_itself b h = record { same = refl; valid = h }

bits_small : (c : ActiveConditions) → number_of_bits (shown_bits (own_conditions c)) < 131072
bits_small c = number_small (record c { flinch = false })

current_words : (m : Member) (a : Active) → (k : ℕ) → slice_index (stats_of m a) k < 65536
current_words m a = words (now Attack m a) (now Defense m a) (now Speed m a) (now Special m a) (now_fits Attack m a) (now_fits Defense m a) (now_fits Speed m a) (now_fits Special m a)

pub own_plain : (clause : Bool) (o : OwnSide) (x : PublicSide) (s : Side) (b : State) → IsState b → Shows o s b.field → IsPlainSide (own_part clause o x)
unfolding own_part
own_plain clause o x s b valid w =
    let k = packs_of (stands_itself b valid) in
    let m : (i : ℕ) → i < 6 → IsPlainMember (own_state clause (seen_in i x.members) (slice_index_or o.members i not_shown_member)) =
    λ i low. member_plain clause (seen_in i x.members) _ (member_at (i + 1) (party s b.field)) (w.members i low) (hp_fits_at k s (i + 1)) (stats_fit_at k s (i + 1)) in
    let small = bits_small (conditions_in s b.field) in
    let c = w.conditions in
    record {
      count = refl;
      members = by m;
      active = record {
        types = ap length w.types;
        stages = ap length w.stages;
        stats = ap length w.stats;
        conditions = omega (arith, c, small);
        energy = lit< tt;
        words = subst (λ (l : List ℕ). (k : ℕ) → slice_index l k < 65536) (sym w.stats)
            (current_words (member_in s b.field) (active_in s b.field));
      };
    }
  where
    by : ((i : ℕ) → i < 6 → IsPlainMember (own_state clause (seen_in i x.members) (slice_index_or o.members i not_shown_member)))
        → (i : ℕ) → i < 6 → IsPlainMember (slice_index_or (own_members clause x.members o.members) i no_member)
    by m zero h = m 0 h
    by m (suc zero) h = m 1 h
    by m (suc (suc zero)) h = m 2 h
    by m (suc (suc (suc zero))) h = m 3 h
    by m (suc (suc (suc (suc zero)))) h = m 4 h
    by m (suc (suc (suc (suc (suc zero))))) h = m 5 h
    by m (suc (suc (suc (suc (suc (suc i)))))) h = absurd (omega (arith, h))

-- Its current stats are there: a current Defense is at least 1

none_left : (a b c : Bool) → (a && false && b && c) ≡ false
none_left true b c = refl
none_left false b c = refl

not_left : (a : ActiveState) → 1 ≤ slice_index a.stats 1 → are_left a ≡ false
not_left a low =
    let no : (slice_index a.stats 1 == 0) ≡ false = grind (arith, nat_tests) in
    ap (λ (b : Bool). slice_index a.stats 0 == 0 && b && slice_index a.stats 2 == 0 && slice_index a.stats 3 == 0) no
    ∙ none_left (slice_index a.stats 0 == 0) (slice_index a.stats 2 == 0) (slice_index a.stats 3 == 0)

pub own_complete : (clause : Bool) (o : OwnSide) (x : PublicSide) (s : Side) (f : Field) → Shows o s f → completed_side (own_part clause o x) ≡ own_part clause o x
unfolding own_part completed_side
own_complete clause o x s f w =
    let y : SideState = own_part clause o x in
    let low : 1 ≤ slice_index o.stats 1 = subst (λ (l : List ℕ). 1 ≤ slice_index l 1) (sym w.stats) (omega arith) in
    ap (λ (b : Bool). cond b (record y { active = record y.active { stats = computed_stats (member_out y) y.active } }) y) (not_left y.active low)

-- It looks the same

abbrev look_of : MemberState → OwnMember
look_of m = record { species = m.species; level = m.level; status = m.status; unused = 0; moves = m.moves; pp = m.pp; hp = m.hp; max_hp = m.max_hp; stats = m.stats }

abbrev stages_from : List ℕ → Stages
stages_from l = record {
  attack = slice_index l 0;
  defense = slice_index l 1;
  speed = slice_index l 2;
  special = slice_index l 3;
  accuracy = slice_index l 4;
  evasion = slice_index l 5;
}

own_at : (clause : Bool) (o : OwnSide) (x : PublicSide) (k : ℕ) → k < 6
    → slice_index_or (own_members clause x.members o.members) k no_member ≡ own_state clause (seen_in k x.members) (slice_index_or o.members k not_shown_member)
own_at clause o x zero h = refl
own_at clause o x (suc zero) h = refl
own_at clause o x (suc (suc zero)) h = refl
own_at clause o x (suc (suc (suc zero))) h = refl
own_at clause o x (suc (suc (suc (suc zero)))) h = refl
own_at clause o x (suc (suc (suc (suc (suc zero))))) h = refl
own_at clause o x (suc (suc (suc (suc (suc (suc k)))))) h = absurd (omega (arith, h))

member_looks : (clause : Bool) (o : OwnSide) (x : PublicSide) (s u : Side) (f b : Field) → Shows o s b → Holds (party u f) (own_part clause o x)
    → (k : ℕ) → k < 6 → looks (k + 1) (party u f) ≡ looks (k + 1) (party s b)
unfolding own_part
member_looks clause o x s u f b w h k low =
    ap look_of (h.members k low) ∙ ap look_of (own_at clause o x k low)
    ∙ ap (λ (q : OwnMember). look_of (own_state clause (seen_in k x.members) q)) (w.members k low)

looks_same : (t u : Party) → length t.members ≤ 6 → length u.members ≤ 6 → ((k : ℕ) → k < 6 → looks (k + 1) t ≡ looks (k + 1) u) → (place : ℕ) → looks place t ≡ looks place u
looks_same t u few_t few_u h zero = h 0 (lit< tt)
looks_same t u few_t few_u h (suc k) = by (below_or k 6)
  where
    by : (k < 6) ⊎ (6 ≤ k) → looks (suc k) t ≡ looks (suc k) u
    by (inl low) = let e : k + 1 ≡ suc k = omega arith in subst (λ (n : ℕ). looks n t ≡ looks n u) e (h k low)
    by (inr past) =
        ap (λ (m : Member). plain_member (own_member m)) (past_six t few_t (suc k) (omega (arith, past)))
        ∙ sym (ap (λ (m : Member). plain_member (own_member m)) (past_six u few_u (suc k) (omega (arith, past))))

pub own_alike : (clause : Bool) (o : OwnSide) (x : PublicSide) (s : Side) (f b : State) → Shows o s b.field → Holds (party s f.field) (own_part clause o x)
    → IsParty f.terms.rules (party s f.field) → IsParty b.terms.rules (party s b.field)
    → x.last_move ≡ current_move_of (party s b.field) → IsMoveOf (member_in s b.field) x.last_move → Alike (party s f.field) (party s b.field)
unfolding own_part
own_alike clause o x s f b w h vf vb last own =
    let t : Party = party s f.field in
    let u : Party = party s b.field in
    let few_t = few_moves f.terms.rules t vf.members in
    let few_u = few_moves b.terms.rules u vb.members in
    let members = looks_same t u vf.members.size.1 vb.members.size.1 (member_looks clause o x s s f.field b.field w h) in
    let place : t.active.place ≡ u.active.place = ap (λ (a : ActiveState). a.place) h.active ∙ w.place in
    let types = ap (λ (a : ActiveState). a.types) h.active ∙ w.types in
    let bits : condition_bits t.active.conditions ≡ shown_bits (own_conditions u.active.conditions) =
    bits_same (condition_bits t.active.conditions) (shown_bits (own_conditions u.active.conditions)) refl (ap (λ (a : ActiveState). a.conditions) h.active ∙ w.conditions) in
    let low = vf.place.0 in
    let high = vf.place.1 in
    let few = vf.members.size.1 in
    let at : place_in o.place (own_members clause x.members o.members) ≡ member_state (member_at t.active.place t) =
    ap (λ (n : ℕ). slice_index_or (own_members clause x.members o.members) (n - 1) no_member) (sym (ap (λ (a : ActiveState). a.place) h.active))
    ∙ sym (h.members (t.active.place - 1) (omega (arith, low, high, few)))
    ∙ (let back : t.active.place - 1 + 1 ≡ t.active.place = omega (arith, low) in ap (λ (n : ℕ). member_state (member_at n t)) back) in
    let out : looks t.active.place t ≡ looks u.active.place u = members t.active.place ∙ ap (λ (n : ℕ). looks n u) place in
    let used : used_byte t.active.current_move ≡ used_slot x.last_move (looks t.active.place t).moves =
    ap (λ (a : ActiveState). a.current_move) h.active ∙ ap (λ (m : MemberState). used_slot x.last_move m.moves) at in
    let known = move-is (member_at u.active.place u) (few_u u.active.place) x.last_move own in
    let current : current_move_of t ≡ x.last_move =
    current_is t.active.current_move (member_at t.active.place t).moves x.last_move vf.active.current_move (few_t t.active.place) used
    (subst (λ (m : OwnMember). x.last_move ≢ 0 → (x.last_move ≡ struggle) ⊎ (four (λ (j : ℕ). j == x.last_move) m.moves ≡ true)) (sym out) known) in
    record {
      place = place;
      stages = ap (λ (a : ActiveState). stages_from a.stages) h.active ∙ ap stages_from w.stages;
      first_type = ap (λ (l : List ℕ). slice_index l 0) types;
      second_type = ap (λ (l : List ℕ). slice_index l 1) types;
      conditions = ap conditions_from bits;
      current = current ∙ last;
      members = members;
      few_first = few_t;
      few_second = few_u;
    }

-- The counter of bad poison
pub own_poison : (clause : Bool) (o : OwnSide) (x : PublicSide) (s : Side) (t : Party) (b : Field) → Shows o s b → Holds t (own_part clause o x)
    → unwrap_or t.active.conditions.bad_poison 0 ≡ on (is_some (conditions_in s b).bad_poison) x.announced.toxic_count
unfolding own_part
own_poison clause o x s t b w h = ap (λ (a : ActiveState). a.bad_poison) h.active ∙ ap (λ (n : ℕ). on (bit_at n 13 == 1) x.announced.toxic_count) w.conditions
    ∙ ap (λ (c : Bool). on c x.announced.toxic_count) (bit_back (shown_bits (own_conditions (conditions_in s b))) 13)

-- Sleep

pub marked-by : (clause : Bool) (status by : ℕ) (b : Bool) → bit_of b ≡ mark_of clause status by → b ≡ (clause && (status == 1 && by == 1))
marked-by clause status by b e = same (clause && (status == 1 && by == 1)) b e
  where
    same : (c b : Bool) → bit_of b ≡ (if c then 1 else 0) → b ≡ c
    same true true e = refl
    same false false e = refl
    same true false e = absurd (omega (arith, e))
    same false true e = absurd (omega (arith, e))

-- Of a member that sleeps after so many turns, one turn is left at least.
abbrev pub IsShort : Seen → Type 0
IsShort s = s.status ≡ 1 → (s.asleep_by ≡ 1 → s.slept ≤ 6) × (s.asleep_by ≡ 2 → s.slept ≤ 1)

pub short-of : (clause : Bool) (rules : Rules) (s : Seen) (m : Member) → IsStatus rules m.status → s.status ≡ kind_or_0 (kind_of m.status) → IsAsleepBy clause s m → IsShort s
short-of clause rules s m v shown h = by m.status refl v
  where
    by : (status : Status) → m.status ≡ status → IsStatus rules status → IsShort s
    by (Asleep n marked) e v = λ z. let adds = h.turns n marked e in let low = v.0.0 in (λ b. let sum = adds.0 b in omega (arith, sum, low), λ b. let sum = adds.1 b in omega (arith, sum, low))
    by Healthy e v = λ z. absurd (let no : 1 ≡ 0 = sym z ∙ shown ∙ ap (λ (x : Status). kind_or_0 (kind_of x)) e in omega (arith, no))
    by Poisoned e v = λ z. absurd (let no : 1 ≡ 2 = sym z ∙ shown ∙ ap (λ (x : Status). kind_or_0 (kind_of x)) e in omega (arith, no))
    by Burned e v = λ z. absurd (let no : 1 ≡ 3 = sym z ∙ shown ∙ ap (λ (x : Status). kind_or_0 (kind_of x)) e in omega (arith, no))
    by Frozen e v = λ z. absurd (let no : 1 ≡ 4 = sym z ∙ shown ∙ ap (λ (x : Status). kind_or_0 (kind_of x)) e in omega (arith, no))
    by Paralysed e v = λ z. absurd (let no : 1 ≡ 5 = sym z ∙ shown ∙ ap (λ (x : Status). kind_or_0 (kind_of x)) e in omega (arith, no))

left-adds : (by slept : ℕ) → (by ≡ 1 → slept ≤ 6) × (by ≡ 2 → slept ≤ 1) → (by ≡ 1 → slept + turns_left by slept ≤ 7) × (by ≡ 2 → slept + turns_left by slept ≡ 2)
left-adds by slept short = (
  λ e. let low = short.0 e in subst (λ (b : ℕ). slept + turns_left b slept ≤ 7) (sym e) (omega (arith, low)),
  λ e. let low = short.1 e in subst (λ (b : ℕ). slept + turns_left b slept ≡ 2) (sym e) (omega (arith, low)),
)

pub turns-left : (s : Seen) (n : Member) → (member_state n).sleep ≡ sleep_of (member_state n).status s → (member_state n).status ≡ s.status → IsShort s
    → (turns : ℕ) (marked : Bool) → n.status ≡ Asleep turns marked → (s.asleep_by ≡ 1 → s.slept + turns ≤ 7) × (s.asleep_by ≡ 2 → s.slept + turns ≡ 2)
turns-left s n sleep status short turns marked e =
    let one : (member_state n).status ≡ 1 = ap (λ (x : Status). kind_or_0 (kind_of x)) e in
    let left : turns ≡ turns_left s.asleep_by s.slept = sym (ap turns_of e) ∙ sleep ∙ ap (λ (k : ℕ). sleep_of k s) one in
    subst (λ (i : ℕ). (s.asleep_by ≡ 1 → s.slept + i ≤ 7) × (s.asleep_by ≡ 2 → s.slept + i ≡ 2)) (sym left) (left-adds s.asleep_by s.slept (short (sym status ∙ one)))

-- A member with the mark and the count that belong to what is known of its sleep.
pub sleeps-marked : (clause truth : Bool) (s : Seen) (m n : Member) → IsAsleepBy truth s m → (member_state n).marked ≡ mark_of clause s.status s.asleep_by
    → (member_state n).sleep ≡ sleep_of (member_state n).status s → (member_state n).status ≡ s.status → IsShort s → IsAsleepBy clause s n
sleeps-marked clause truth s m n h e sleep status short = record { cause = h.cause; mark = marked-by clause s.status s.asleep_by (is_marked n.status) e; turns = turns-left s n sleep status short }

pub own_sleeps : (clause truth : Bool) (o : OwnSide) (x y : PublicSide) (s : Side) (f b : Field) → Shows o s b → Holds (party s f) (own_part clause o x) → length (party s f).members ≤ 6
    → ((k : ℕ) → k < 6 → (seen_in k y.members).species ≢ 0 → seen_in k x.members ≡ seen_in k y.members)
    → SideAgrees y (side_shows (party s b)) → SideHasAppeared y (party s f) → ((place : ℕ) → (seen_at place y).species ≢ 0 → IsShort (seen_at place y)) → SideSleeps truth y (party s b) → SideSleeps clause y (party s f)
unfolding own_part
own_sleeps clause truth o x y s f b w h few same view has short sleeps place z = by (below_or (place - 1) 6)
  where
    t : Party
    t = party s f

    by : (place - 1 < 6) ⊎ (6 ≤ place - 1) → IsAsleepBy clause (seen_at place y) (member_at place t)
    by (inr past) = absurd (z ((has.each place z).species ∙ ap (λ (m : Member). m.species) (past_six t few place (omega (arith, past)))))
    by (inl low) =
        let k : ℕ = place - 1 in
        let back : k + 1 - 1 ≡ k = omega arith in
        let shown : (slice_index_or o.members k not_shown_member).status ≡ (seen_at place y).status =
        ap (λ (m : OwnMember). m.status) (w.members k low) ∙ ap (λ (i : ℕ). kind_or_0 (shown (slice_index_or (party s b).members i nobody)).kind) back
        ∙ sym (ap (λ (m : Shown). kind_or_0 m.kind) (shows_at (party s b) place)) ∙ sym (view.members place z).1 in
        let m : OwnMember = slice_index_or o.members k not_shown_member in
        let made : member_state (member_at place t) ≡ own_state clause (seen_in k x.members) m =
        ap (λ (i : ℕ). member_state (slice_index_or t.members i nobody)) (sym back) ∙ h.members k low ∙ own_at clause o x k low in
        sleeps-marked clause truth (seen_at place y) (member_at place (party s b)) (member_at place t) (sleeps place z)
        (ap (λ (n : MemberState). n.marked) made ∙ ap (λ (n : ℕ). mark_of clause n (seen_in k x.members).asleep_by) shown ∙ ap (λ (m : Seen). mark_of clause (seen_at place y).status m.asleep_by) (same k low z))
        (ap (λ (n : MemberState). n.sleep) made ∙ ap (λ (q : Seen). sleep_of m.status q) (same k low z) ∙ ap (λ (i : ℕ). sleep_of i (seen_at place y)) (sym (ap (λ (n : MemberState). n.status) made)))
        (ap (λ (n : MemberState). n.status) made ∙ shown) (short place z)

-- The side is shown the same

abbrev side_made : List OwnMember → ℕ → List ℕ → ℕ → ℕ → List ℕ → List ℕ → ℕ → ℕ → ℕ → ℕ → ℕ → OwnSide
side_made members conditions stats turn place types stages slot held request outcome count = record {
  members = members;
  conditions = conditions;
  stats = stats;
  turn = turn;
  place = place;
  types = types;
  stages = stages;
  disabled_slot = slot;
  held = held;
  request = request;
  outcome = outcome;
  count = count;
}

shown_made : {a0 a1 a2 a3 a4 a5 b0 b1 b2 b3 b4 b5 : OwnMember} {a6 a8 a9 a12 a13 a14 a15 a16 b6 b8 b9 b12 b13 b14 b15 b16 : ℕ} {a7 a10 a11 b7 b10 b11 : List ℕ}
    → a0 ≡ b0 → a1 ≡ b1 → a2 ≡ b2 → a3 ≡ b3 → a4 ≡ b4 → a5 ≡ b5 → a6 ≡ b6 → a7 ≡ b7 → a8 ≡ b8 → a9 ≡ b9 → a10 ≡ b10 → a11 ≡ b11 → a12 ≡ b12 → a13 ≡ b13
    → a14 ≡ b14 → a15 ≡ b15 → a16 ≡ b16
    → side_made (a0 ∷ a1 ∷ a2 ∷ a3 ∷ a4 ∷ a5 ∷ []) a6 a7 a8 a9 a10 a11 a12 a13 a14 a15 a16 ≡ side_made (b0 ∷ b1 ∷ b2 ∷ b3 ∷ b4 ∷ b5 ∷ []) b6 b7 b8 b9 b10 b11 b12 b13 b14 b15 b16
shown_made e0 e1 e2 e3 e4 e5 e6 e7 e8 e9 e10 e11 e12 e13 e14 e15 e16 = rw (e0, e1, e2, e3, e4, e5, e6, e7, e8, e9, e10, e11, e12, e13, e14, e15, e16) refl

count_same : (rf rb : Rules) (t u : Party) → IsMembersUnder rf t.members → IsMembersUnder rb u.members → ((place : ℕ) → looks place t ≡ looks place u)
    → length (map own_member t.members) ≡ length (map own_member u.members)
count_same rf rb t u vt vu h =
    let present : (k : ℕ) → is_present (slice_index_or t.members k nobody) ≡ is_present (slice_index_or u.members k nobody) =
    λ k. let back : k + 1 - 1 ≡ k = omega arith in
    ap (λ (i : ℕ). is_present (slice_index_or t.members i nobody)) (sym back) ∙ ap (λ (m : OwnMember). if m.species == 0 then 0 else 1) (h (k + 1))
    ∙ ap (λ (i : ℕ). is_present (slice_index_or u.members i nobody)) back in
    as_many t.members ∙ sym (counted t.members vt.size.1 (have_species rf t.members vt))
    ∙ rw (present 0, present 1, present 2, present 3, present 4, present 5) refl
    ∙ counted u.members vu.size.1 (have_species rb u.members vu) ∙ sym (as_many u.members)

pub same_shown : (s : Side) (f b : State) → Alike (party s f.field) (party s b.field) → IsParty f.terms.rules (party s f.field) → IsParty b.terms.rules (party s b.field)
    → stats_of (member_in s f.field) (active_in s f.field) ≡ stats_of (member_in s b.field) (active_in s b.field)
    → disabled_slot (conditions_in s f.field).disabled ≡ disabled_slot (conditions_in s b.field).disabled
    → bit_of (is_some (underway_in (other s) f.field).trapping) ≡ bit_of (is_some (underway_in (other s) b.field).trapping)
    → f.field.turn ≡ b.field.turn → request_byte (request_of s f.field) ≡ request_byte (request_of s b.field) → outcome_byte f.field.outcome ≡ outcome_byte b.field.outcome
    → plain_side (own_side s f.field) ≡ plain_side (own_side s b.field)
same_shown s f b a vf vb stats slot held turn request outcome =
    let out_f : ((active_in s f.field).place == 0) ≡ false = let low = vf.place.0 in grind (arith, nat_tests) in
    let out_b : ((active_in s b.field).place == 0) ≡ false = let low = vb.place.0 in grind (arith, nat_tests) in
    let x = shows s f.field out_f in
    let y = shows s b.field out_b in
    let member : (k : ℕ) → k < 6 → slice_index_or (plain_side (own_side s f.field)).members k not_shown_member ≡ slice_index_or (plain_side (own_side s b.field)).members k not_shown_member =
    λ k low. x.members k low ∙ a.members (k + 1) ∙ sym (y.members k low) in
    shown_made (member 0 (lit< tt)) (member 1 (lit< tt)) (member 2 (lit< tt)) (member 3 (lit< tt)) (member 4 (lit< tt)) (member 5 (lit< tt))
    (x.conditions ∙ ap (λ (c : OwnConditions). number_of_bits (shown_bits c)) a.conditions ∙ sym y.conditions)
    (x.stats ∙ stats ∙ sym y.stats) turn (x.place ∙ a.place ∙ sym y.place)
    (x.types ∙ ap (λ (n : ℕ). n ∷ number_of (active_in s f.field).second_type ∷ []) a.first_type ∙ ap (λ (n : ℕ). number_of (active_in s b.field).first_type ∷ n ∷ []) a.second_type ∙ sym y.types)
    (x.stages ∙ ap (λ (g : Stages). g.attack ∷ g.defense ∷ g.speed ∷ g.special ∷ g.accuracy ∷ g.evasion ∷ []) a.stages ∙ sym y.stages)
    (x.slot ∙ slot ∙ sym y.slot) held request outcome (count_same f.terms.rules b.terms.rules (party s f.field) (party s b.field) vf.members vb.members a.members)

pub slot_of_own : (clause : Bool) (o : OwnSide) (x : PublicSide) (s : Side) (f b : Field) → Holds (party s f) (own_part clause o x) → Shows o s b
    → disabled_slot (conditions_in s f).disabled ≡ disabled_slot (conditions_in s b).disabled
unfolding own_part
slot_of_own clause o x s f b h w = ap (λ (a : ActiveState). a.disabled_slot) h.active ∙ w.slot

pub stats_of_own : (clause : Bool) (o : OwnSide) (x : PublicSide) (s : Side) (f b : Field) → (f.turn ≡ 0 → ⊥) → side_state s f ≡ completed_side (own_part clause o x) → Shows o s b
    → stats_of (member_in s f) (active_in s f) ≡ stats_of (member_in s b) (active_in s b)
unfolding own_part
stats_of_own clause o x s f b out e w =
    let now : (side_state s f).active ≡ state_of_active (member_in s f) (active_in s f) =
    ap (λ (b : Bool). cond b no_active (state_of_active (member_in s f) (active_in s f))) (not_zero f.turn out) in
    ap (λ (a : ActiveState). a.stats) (sym now) ∙ ap (λ (z : SideState). z.active.stats) (e ∙ own_complete clause o x s b w) ∙ w.stats
