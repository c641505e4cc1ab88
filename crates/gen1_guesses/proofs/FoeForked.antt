-- The foe's side in a battle that fits agrees with what the player knows of it.
use Rattle.std.proofs.Common.{Bool, Err, List, Ok, [], ap, arith, false, get_or, inl, inr, is_some, length, not, refl, slice_index, slice_index_or, subst, suc, sym, true, unwrap_or, zero, ℕ, ◌+◌, ◌-◌, ◌<◌, ◌&&◌, ◌==◌, ◌∙◌, ◌∷◌, ◌≡◌, ◌≢◌, ◌≤◌, ◌⊎◌, ◌||◌}
use Rattle.std.specs.Prelude.{if◌then◌else◌, nat_le}
use Rattle.std.proofs.lemmas.Bool.{false≢true}
use Rattle.std.proofs.lemmas.Bool.Decides.{eqb_tells, nat_tests}
use Rattle.gen1_tables.specs.declared.effect.Effect.{Effect}
use Rattle.gen1_tables.specs.declared.effect.Effect.TheVariants as effects
use Rattle.gen1_tables.specs.Effects.{bides, charges, rages, recharges, thrashes, traps}
use Rattle.gen1_tables.specs.Moves.{move_row, move_rows, struggle}
use Rattle.gen1_stats.specs.Members.{nobody, is_living, is_marked}
use Rattle.gen1_layout.specs.Loading.{effect_of_number}
use Rattle.gen1_machine.specs.Layout.{condition_bits}
use Rattle.gen1_machine.specs.LogBytes.{kind_or_0}
use Rattle.gen1_machine.specs.Moves.{move_at}
use Rattle.gen1_machine.specs.Rules.{bit_of, Rules}
use Rattle.gen1_machine.specs.State.{member_at, Party, Stages}
use Rattle.gen1_machine.specs.Valid.{IsParty}
use Rattle.gen1_machine.specs.View.{side_shows, Shown}
use Rattle.gen1_player.specs.declared.player.Player.{Player}
use Rattle.gen1_player.specs.declared.public_side.PublicSide.{PublicSide}
use Rattle.gen1_player.specs.declared.seen.Seen.{Seen}
use Rattle.gen1_player.specs.declared.seen.SeenMove.{SeenMove}
use Rattle.gen1_player.specs.Public.{new_uses, not_seen, not_used, seen_at, may_go_on}
use Rattle.gen1_player.specs.True.{current_move_of, IsMoveOf, IsSeen, SideAgrees, SideDoes, SideHasAppeared, SideIsTold, IsAsleepBy, SideSleeps, HasCause}
use Rattle.gen1_states.specs.Plain.{on as on_if, ◌▸◌, no_member}
use Rattle.gen1_states.specs.Reading.{member_state}
use Rattle.gen1_states.specs.declared.plain.ActiveState.{ActiveState}
use Rattle.gen1_states.specs.declared.plain.MemberState.{MemberState}
use Rattle.gen1_guesses.specs.Forks.{foe_bits, is_on, used_slot, member_at as place_in, members_of, seen_in, sleep_of, told, told_if_seen, hp_of, foe_part, IsToldAs, at_index, id_in, knows as knows_move, tested, tested_member, tested_members, tested_use, tested_uses, unless, Tested, tested_hp}
use Rattle.gen1_guesses.specs.declared.guess.GuessFault.{GuessFault}
use Rattle.gen1_guesses.specs.declared.guess.GuessFault.TheVariants as faults
use Rattle.gen1_guesses.proofs.OwnForked.{bit_back, bits_same, four, is-move, knows_used, shows_at, marked-by, turns-left, IsShort}
use Rattle.gen1_guesses.proofs.ForkedStates.{below_or, current_is, few_moves, Holds}
use Rattle.gen1_machine.specs.Action.{keeps_going}

-- Flags and effects

-- A flag is 0 or 1.
abbrev pub IsFlag : ℕ → Type 0
IsFlag n = n ≡ bit_of (is_on n)

pub flag_of : (n : ℕ) (b : Bool) → n ≡ bit_of b → IsFlag n
flag_of n true e = subst IsFlag (sym e) refl
flag_of n false e = subst IsFlag (sym e) refl

pub on_is : (n : ℕ) (b : Bool) → n ≡ bit_of b → is_on n ≡ b
on_is n true e = ap is_on e
on_is n false e = ap is_on e

pub and_same : (a b : Bool) → (a ≡ true → b ≡ true) → (a && b) ≡ a
and_same true b h = h refl
and_same false b h = refl

pub both : (a b : Bool) → (a && b) ≡ true → (a ≡ true) × (b ≡ true)
both true b e = (refl, e)
both false b e = absurd (false≢true e)

no_effect : (move_at 0).effect ≡ effect_of_number 0
unfolding move_rows move_row
no_effect = refl

pub effect_is : (n : ℕ) → n ≤ 165 → (move_at n).effect ≡ effect_of_number n
effect_is zero few = no_effect
effect_is (suc n) few =
    let low : nat_le 1 (suc n) ≡ true = grind (arith, nat_tests) in
    let high : nat_le (suc n) 165 ≡ true = grind (arith, nat_tests) in
    rw (low, high) refl

-- An effect that a number without a move has not.
pub by_number : (test : Effect → Bool) → test effects.DamageOnly ≡ false → (n : ℕ) → test (effect_of_number n) ≡ true → test (move_at n).effect ≡ true
by_number test none n h = by (nat_le 1 n && nat_le n 165) h
  where
    by : (b : Bool) → test (if b then (move_row n).effect else effects.DamageOnly) ≡ true → test (move_row n).effect ≡ true
    by true e = e
    by false e = absurd (false≢true (sym none ∙ e))

-- What the player knows of the foe

pub record Foe (x : PublicSide) : Type 0 where
  pub substitute : IsFlag x.announced.substitute
  pub confused : IsFlag x.announced.confused
  pub mist : IsFlag x.announced.mist
  pub focus_energy : IsFlag x.announced.focus_energy
  pub light_screen : IsFlag x.announced.light_screen
  pub reflect : IsFlag x.announced.reflect
  pub toxic : IsFlag x.announced.toxic
  pub unused : x.unused ≡ 0
  pub disabled : IsFlag x.announced.disabled
  pub rage : IsFlag x.announced.rage
  pub bide : IsFlag x.announced.bide
  pub charging : IsFlag x.announced.charging
  pub bides : is_on x.announced.bide ≡ true → bides (effect_of_number x.last_move) ≡ true
  pub charges : is_on x.announced.charging ≡ true → charges (effect_of_number x.last_move) ≡ true
  pub rests : x.announced.recharging ≢ 0 → recharges (move_at x.last_move).effect ≡ true
  pub causes : (i : ℕ) → HasCause (seen_in i x.members)
  pub short : (i : ℕ) → IsShort (seen_in i x.members)
  pub rages : is_on x.announced.rage ≡ true → rages (effect_of_number x.last_move) ≡ true
  pub slots : (k : ℕ) → length (seen_in k x.members).moves ≡ 5
  pub out : x.place ≢ 0 → (seen_at x.place x).species ≢ 0

-- with HP as they are in the battle.
abbrev pub exact_at : Party → ℕ → PublicSide → Seen
exact_at t k x =
    let s = seen_in k x.members in
    let m = slice_index_or t.members k nobody in
    if s.species == 0 then s else record s { hp = m.hp; max = m.max }

abbrev pub exact : Party → PublicSide → PublicSide
exact t x = record x { members = exact_at t 0 x ∷ exact_at t 1 x ∷ exact_at t 2 x ∷ exact_at t 3 x ∷ exact_at t 4 x ∷ exact_at t 5 x ∷ [] }

pub exact_in : (t : Party) (x : PublicSide) (k : ℕ) → k < 6 → seen_in k (exact t x).members ≡ exact_at t k x
exact_in t x zero h = refl
exact_in t x (suc zero) h = refl
exact_in t x (suc (suc zero)) h = refl
exact_in t x (suc (suc (suc zero))) h = refl
exact_in t x (suc (suc (suc (suc zero)))) h = refl
exact_in t x (suc (suc (suc (suc (suc zero))))) h = refl
exact_in t x (suc (suc (suc (suc (suc (suc k)))))) h = absurd (omega (arith, h))

pub exact_past : (t : Party) (x : PublicSide) (k : ℕ) → 6 ≤ k → seen_in k (exact t x).members ≡ not_seen
exact_past t x zero h = absurd (omega (arith, h))
exact_past t x (suc zero) h = absurd (omega (arith, h))
exact_past t x (suc (suc zero)) h = absurd (omega (arith, h))
exact_past t x (suc (suc (suc zero))) h = absurd (omega (arith, h))
exact_past t x (suc (suc (suc (suc zero)))) h = absurd (omega (arith, h))
exact_past t x (suc (suc (suc (suc (suc zero))))) h = absurd (omega (arith, h))
exact_past t x (suc (suc (suc (suc (suc (suc k)))))) h = refl

pub exact_seen : (t : Party) (k : ℕ) (x : PublicSide) → (seen_in k x.members).species ≢ 0
    → let m = slice_index_or t.members k nobody in exact_at t k x ≡ record (seen_in k x.members) { hp = m.hp; max = m.max }
exact_seen t k x z = by (eqb_tells (seen_in k x.members).species 0)
  where
    by : ((((seen_in k x.members).species == 0) ≡ true) × ((seen_in k x.members).species ≡ 0)) ⊎ ((((seen_in k x.members).species == 0) ≡ false) × ((seen_in k x.members).species ≢ 0))
        → exact_at t k x ≡ record (seen_in k x.members) { hp = (slice_index_or t.members k nobody).hp; max = (slice_index_or t.members k nobody).max }
    by (inl e) = absurd (z e.1)
    by (inr e) = rw e.0 refl

pub exact_species : (t : Party) (k : ℕ) (x : PublicSide) → (exact_at t k x).species ≡ (seen_in k x.members).species
exact_species t k x = by ((seen_in k x.members).species == 0)
  where
    by : (b : Bool) → (if b then seen_in k x.members else record (seen_in k x.members) { hp = (slice_index_or t.members k nobody).hp; max = (slice_index_or t.members k nobody).max }).species
        ≡ (seen_in k x.members).species
    by true = refl
    by false = refl

-- The members of the battle

module _ (clause : Bool) (x : PublicSide) (held : Bool) (fresh : List MemberState) (t : Party) (h : Holds t (foe_part clause x held fresh)) where
  told_in_place : (k : ℕ) → k < 6 → member_state (slice_index_or t.members k nobody) ≡ told_if_seen clause (seen_in k x.members) (slice_index_or fresh k no_member)
  unfolding foe_part
  told_in_place k low = (let back : k ≡ k + 1 - 1 = omega arith in ap (λ (i : ℕ). member_state (slice_index_or t.members i nobody)) back) ∙ h.members k low ∙ by k low
    where
      by : (k : ℕ) → k < 6 → slice_index_or (members_of clause x.members fresh) k no_member ≡ told_if_seen clause (seen_in k x.members) (slice_index_or fresh k no_member)
      by zero l = refl
      by (suc zero) l = refl
      by (suc (suc zero)) l = refl
      by (suc (suc (suc zero))) l = refl
      by (suc (suc (suc (suc zero)))) l = refl
      by (suc (suc (suc (suc (suc zero))))) l = refl
      by (suc (suc (suc (suc (suc (suc k)))))) l = absurd (omega (arith, l))

  pub told_there : (k : ℕ) → k < 6 → (seen_in k x.members).species ≢ 0 → member_state (slice_index_or t.members k nobody) ≡ told clause (seen_in k x.members) (slice_index_or fresh k no_member)
  told_there k low z = told_in_place k low ∙ by (eqb_tells (seen_in k x.members).species 0)
    where
      by : ((((seen_in k x.members).species == 0) ≡ true) × ((seen_in k x.members).species ≡ 0)) ⊎ ((((seen_in k x.members).species == 0) ≡ false) × ((seen_in k x.members).species ≢ 0))
          → told_if_seen clause (seen_in k x.members) (slice_index_or fresh k no_member) ≡ told clause (seen_in k x.members) (slice_index_or fresh k no_member)
      by (inl e) = absurd (z e.1)
      by (inr e) = rw e.0 refl

  -- The moves of any member are those of the guess.
  pub moves_there : (k : ℕ) → k < 6 → (member_state (slice_index_or t.members k nobody)).moves ≡ (slice_index_or fresh k no_member).moves
  moves_there k low = ap (λ (m : MemberState). m.moves) (told_in_place k low) ∙ by ((seen_in k x.members).species == 0)
    where
      by : (b : Bool) → (if b then slice_index_or fresh k no_member else told clause (seen_in k x.members) (slice_index_or fresh k no_member)).moves ≡ (slice_index_or fresh k no_member).moves
      by true = refl
      by false = refl

-- What put a member to sleep doesn't depend on its HP.
told_cause : (s : Seen) (hp most : ℕ) → HasCause s → HasCause (record s { hp = hp; max = most })
told_cause s hp most h = record { asleep = h.asleep; awake = h.awake; rested = h.rested }

-- What the tests of a guess say

passed : (a : Bool) (fault : GuessFault) → unless a fault ≡ Ok tt → a ≡ true
passed true fault e = refl
passed false fault e = absurd cc

first_ok : (a b : Tested) → (a ▸ b) ≡ Ok tt → (a ≡ Ok tt) × (b ≡ Ok tt)
first_ok (Ok done) b e = (refl, e)
first_ok (Err fault) b e = absurd cc

-- Struggle, or one of the moves that a member of the guess knows.
abbrev pub IsUse : ℕ → MemberState → Type 0
IsUse id m = id ≢ 0 → (id ≡ struggle) ⊎ (four (λ (j : ℕ). j == id) m.moves ≡ true)

third : (a b c : Bool) → a ≡ false → b ≡ false → (a || b || c) ≡ true → c ≡ true
third true b c x y e = absurd (false≢true (sym x))
third false true c x y e = absurd (false≢true (sym y))
third false false c x y e = e

use_of : (number id : ℕ) (m : MemberState) → tested_use number id m ≡ Ok tt → IsUse id m
use_of number id m e z = by (eqb_tells id 0) (eqb_tells id struggle)
  where
    by : (((id == 0) ≡ true) × (id ≡ 0)) ⊎ (((id == 0) ≡ false) × (id ≢ 0)) → (((id == struggle) ≡ true) × (id ≡ struggle)) ⊎ (((id == struggle) ≡ false) × (id ≢ struggle))
        → (id ≡ struggle) ⊎ (four (λ (j : ℕ). j == id) m.moves ≡ true)
    by (inl a) b = absurd (z a.1)
    by (inr a) (inl b) = inl b.1
    by (inr a) (inr b) = inr (third (id == 0) (id == struggle) (knows_move id m) a.0 b.0 (passed _ _ e))

equal : (a b : ℕ) → (a == b) ≡ true → a ≡ b
equal a b e = by (eqb_tells a b)
  where
    by : (((a == b) ≡ true) × (a ≡ b)) ⊎ (((a == b) ≡ false) × (a ≢ b)) → a ≡ b
    by (inl t) = t.1
    by (inr t) = absurd (false≢true (sym t.0 ∙ e))

told_as : (form number : ℕ) (s : Seen) (m : MemberState) → tested_hp form number s m ≡ Ok tt → IsToldAs form s.hp s.max (hp_of s.hp s.max m.max_hp) m.max_hp
told_as form number s m e =
    let tells = both _ _ (both _ _ (passed _ _ e)).1 in (equal _ _ tells.0, equal _ _ tells.1)

pub record FitsMember (form : ℕ) (s : Seen) (m : MemberState) : Type 0 where
  pub species : s.species ≡ m.species
  pub level : s.level ≡ m.level
  pub hp : IsToldAs form s.hp s.max (hp_of s.hp s.max m.max_hp) m.max_hp
  pub uses : (j : ℕ) → j < 5 → IsUse (id_in j s) m

uses_fit : (number : ℕ) (s : Seen) (m : MemberState) → tested_uses number s m ≡ Ok tt → (j : ℕ) → j < 5 → IsUse (id_in j s) m
unfolding tested_uses
uses_fit number s m e =
    let e0 = first_ok _ _ e in
    let e1 = first_ok _ _ e0.1 in
    let e2 = first_ok _ _ e1.1 in
    let e3 = first_ok _ _ e2.1 in
    by (use_of number (id_in 0 s) m e0.0) (use_of number (id_in 1 s) m e1.0) (use_of number (id_in 2 s) m e2.0) (use_of number (id_in 3 s) m e3.0) (use_of number (id_in 4 s) m e3.1)
  where
    by : IsUse (id_in 0 s) m → IsUse (id_in 1 s) m → IsUse (id_in 2 s) m → IsUse (id_in 3 s) m → IsUse (id_in 4 s) m → (j : ℕ) → j < 5 → IsUse (id_in j s) m
    by a b c d f zero low = a
    by a b c d f (suc zero) low = b
    by a b c d f (suc (suc zero)) low = c
    by a b c d f (suc (suc (suc zero))) low = d
    by a b c d f (suc (suc (suc (suc zero)))) low = f
    by a b c d f (suc (suc (suc (suc (suc j))))) low = absurd (omega (arith, low))

abbrev test_of : ℕ → ℕ → Seen → MemberState → Bool → Bool → Bool → Tested
test_of form number s m a b c = if a then Ok tt else if b && c then tested_hp form number s m ▸ tested_uses number s m else Err (faults.Member number)

member_fits : (form number : ℕ) (s : Seen) (m : MemberState) → tested_member form number s m ≡ Ok tt → s.species ≢ 0 → FitsMember form s m
member_fits form number s m e z = by (eqb_tells s.species 0) (eqb_tells s.species m.species) (eqb_tells s.level m.level) e
  where
    by : (((s.species == 0) ≡ true) × (s.species ≡ 0)) ⊎ (((s.species == 0) ≡ false) × (s.species ≢ 0))
        → (((s.species == m.species) ≡ true) × (s.species ≡ m.species)) ⊎ (((s.species == m.species) ≡ false) × (s.species ≢ m.species))
        → (((s.level == m.level) ≡ true) × (s.level ≡ m.level)) ⊎ (((s.level == m.level) ≡ false) × (s.level ≢ m.level))
        → test_of form number s m (s.species == 0) (s.species == m.species) (s.level == m.level) ≡ Ok tt → FitsMember form s m
    by (inl a) b c e = absurd (z a.1)
    by (inr a) (inl b) (inl c) e =
        let both_ok = first_ok (tested_hp form number s m) (tested_uses number s m) (subst (λ (i : Bool). test_of form number s m false true i ≡ Ok tt) c.0
        (subst (λ (i : Bool). test_of form number s m false i (s.level == m.level) ≡ Ok tt) b.0 (subst (λ (i : Bool). test_of form number s m i (s.species == m.species) (s.level == m.level) ≡ Ok tt) a.0 e))) in
        record { species = b.1; level = c.1; hp = told_as form number s m both_ok.0; uses = uses_fit number s m both_ok.1 }
    by (inr a) (inl b) (inr c) e = absurd (let no : Err (faults.Member number) ≡ Ok tt = subst (λ (i : Bool). test_of form number s m false true i ≡ Ok tt) c.0
        (subst (λ (i : Bool). test_of form number s m false i (s.level == m.level) ≡ Ok tt) b.0 (subst (λ (i : Bool). test_of form number s m i (s.species == m.species) (s.level == m.level) ≡ Ok tt) a.0 e)) in cc)
    by (inr a) (inr b) c e = absurd (let no : Err (faults.Member number) ≡ Ok tt =
        subst (λ (i : Bool). test_of form number s m false i (s.level == m.level) ≡ Ok tt) b.0 (subst (λ (i : Bool). test_of form number s m i (s.species == m.species) (s.level == m.level) ≡ Ok tt) a.0 e) in cc)

pub record Fits (p : Player) (x : PublicSide) (fresh : List MemberState) : Type 0 where
  pub own_out : p.own.place ≢ 0
  pub foe_out : x.place ≢ 0
  pub going : p.own.outcome ≡ 0
  pub members : (k : ℕ) → k < 6 → (seen_in k x.members).species ≢ 0 → FitsMember p.hp_form (seen_in k x.members) (slice_index_or fresh k no_member)
  pub last : IsUse x.last_move (place_in x.place fresh)

abbrev At : ℕ → PublicSide → List MemberState → ℕ → ℕ → Type 0
At form x fresh k number = at_index form k x.members fresh number ≡ Ok tt

members_fit : (form : ℕ) (x : PublicSide) (fresh : List MemberState) → tested_members form x.members fresh ≡ Ok tt
    → (k : ℕ) → k < 6 → (seen_in k x.members).species ≢ 0 → FitsMember form (seen_in k x.members) (slice_index_or fresh k no_member)
unfolding tested_members
members_fit form x fresh e =
    let e0 = first_ok _ _ e in
    let e1 = first_ok _ _ e0.1 in
    let e2 = first_ok _ _ e1.1 in
    let e3 = first_ok _ _ e2.1 in
    let e4 = first_ok _ _ e3.1 in
    by (e0.0) (e1.0) (e2.0) (e3.0) (e4.0) (e4.1)
  where
    by : At form x fresh 0 1 → At form x fresh 1 2 → At form x fresh 2 3 → At form x fresh 3 4 → At form x fresh 4 5 → At form x fresh 5 6
        → (k : ℕ) → k < 6 → (seen_in k x.members).species ≢ 0 → FitsMember form (seen_in k x.members) (slice_index_or fresh k no_member)
    by a b c d f g zero low z = member_fits form 1 _ _ a z
    by a b c d f g (suc zero) low z = member_fits form 2 _ _ b z
    by a b c d f g (suc (suc zero)) low z = member_fits form 3 _ _ c z
    by a b c d f g (suc (suc (suc zero))) low z = member_fits form 4 _ _ d z
    by a b c d f g (suc (suc (suc (suc zero)))) low z = member_fits form 5 _ _ f z
    by a b c d f g (suc (suc (suc (suc (suc zero))))) low z = member_fits form 6 _ _ g z
    by a b c d f g (suc (suc (suc (suc (suc (suc k)))))) low z = absurd (omega (arith, low))

is_not : (n : ℕ) → not (n == 0) ≡ true → n ≢ 0
is_not n e z = false≢true (sym (ap (λ (i : ℕ). not (i == 0)) z) ∙ e)

pub guess_fits : (p : Player) (x : PublicSide) (count : ℕ) (fresh : List MemberState) → tested p x count fresh ≡ Ok tt → Fits p x fresh
unfolding tested
guess_fits p x count fresh e =
    let e0 = first_ok _ _ e in
    let e1 = first_ok _ _ e0.1 in
    let e2 = first_ok _ _ e1.1 in
    let goes = both _ _ (passed _ _ e0.0) in
    let out = both _ _ goes.0 in
    let going = both _ _ goes.1 in
    record {
      own_out = is_not p.own.place out.0;
      foe_out = is_not x.place out.1;
      going = equal p.own.outcome 0 going.0;
      members = members_fit p.hp_form x fresh e2.0;
      last = use_of x.place x.last_move (place_in x.place fresh) e2.1;
    }

-- Agreement

agree_flag : (n : ℕ) (b : Bool) → IsFlag n → b ≡ is_on n → n ≡ bit_of b
agree_flag n b f e = f ∙ ap bit_of (sym e)

abbrev stages_from : List ℕ → Stages
stages_from l = record {
  attack = slice_index l 0;
  defense = slice_index l 1;
  speed = slice_index l 2;
  special = slice_index l 3;
  accuracy = slice_index l 4;
  evasion = slice_index l 5;
}

abbrev bit : ℕ → List Bool → Bool
bit k bits = get_or bits k false

same_default : (xs : List SeenMove) (k : ℕ) (d e : SeenMove) → k < length xs → get_or xs k d ≡ get_or xs k e
same_default [] k d e h = absurd (omega (arith, h))
same_default (x ∷ xs) zero d e h = refl
same_default (x ∷ xs) (suc k) d e h = same_default xs k d e (omega (arith, h))

-- A count that is 0 without its condition.
pub counted_if : (b : Bool) (n : ℕ) → (b ≡ false → n ≡ 0) → n ≡ on_if b n
counted_if true n h = refl
counted_if false n h = h refl

or_true : (a b : Bool) → b ≡ true → (a || b) ≡ true
or_true true b e = refl
or_true false b e = e

abbrev Tells : ℕ → ℕ → Type 0
Tells a b = (((a == b) ≡ true) × (a ≡ b)) ⊎ (((a == b) ≡ false) × (a ≢ b))

-- The conditions of the foe's active member
bits_are : (clause : Bool) (x : PublicSide) (held : Bool) (fresh : List MemberState) (t : Party) → Holds t (foe_part clause x held fresh) → condition_bits t.active.conditions ≡ foe_bits x held
unfolding foe_part
bits_are clause x held fresh t h = bits_same (condition_bits t.active.conditions) (foe_bits x held) refl (ap (λ (a : ActiveState). a.conditions) h.active)

module _ (clause : Bool) (x : PublicSide) (held : Bool) (fresh : List MemberState) (t : Party) (rules : Rules) (p : Player)
    (h : Holds t (foe_part clause x held fresh)) (v : IsParty rules t) (k : Foe x) (fits : Fits p x fresh) where
  on : (i : ℕ) → bit i (condition_bits t.active.conditions) ≡ bit i (foe_bits x held)
  on i = ap (bit i) (bits_are clause x held fresh t h)

  pub foe_place : t.active.place ≡ x.place
  unfolding foe_part
  foe_place = ap (λ (a : ActiveState). a.place) h.active

  six : t.active.place ≤ 6
  six = let a = v.place.1 in let b = v.members.size.1 in omega (arith, a, b)

  seen_exact : (i : ℕ) → (seen_in i (exact t x).members).species ≢ 0 → (i < 6) × ((seen_in i x.members).species ≢ 0)
      × (let m = slice_index_or t.members i nobody in seen_in i (exact t x).members ≡ record (seen_in i x.members) { hp = m.hp; max = m.max })
  seen_exact i z = by (below_or i 6)
    where
      by : (i < 6) ⊎ (6 ≤ i) → (i < 6) × ((seen_in i x.members).species ≢ 0)
          × (let m = slice_index_or t.members i nobody in seen_in i (exact t x).members ≡ record (seen_in i x.members) { hp = m.hp; max = m.max })
      by (inr past) = absurd (z (ap (λ (s : Seen). s.species) (exact_past t x i past)))
      by (inl low) =
          let some : (seen_in i x.members).species ≢ 0 = λ e. z (ap (λ (s : Seen). s.species) (exact_in t x i low) ∙ exact_species t i x ∙ e) in
          (low, some, exact_in t x i low ∙ exact_seen t i x some)

  pub foe_view : SideAgrees (exact t x) (side_shows t)
  unfolding foe_part
  foe_view = record {
    place = sym foe_place;
    stages = sym (ap (λ (a : ActiveState). stages_from a.stages) h.active);
    substitute = agree_flag _ _ k.substitute (on 9);
    confused = agree_flag _ _ k.confused (on 6);
    light_screen = agree_flag _ _ k.light_screen (on 14);
    reflect = agree_flag _ _ k.reflect (on 15);
    members = λ place z.
        let e = seen_exact (place - 1) z in
        let m : MemberState = member_state (member_at place t) in (
          ap (λ (s : Seen). s.hp) e.2 ∙ sym (ap (λ (s : Shown). s.hp) (shows_at t place)),
          ap (λ (s : Seen). s.status) e.2 ∙ sym (ap (λ (m : MemberState). m.status) (told_there clause x held fresh t h (place - 1) e.0 e.1)) ∙ sym (ap (λ (s : Shown). kind_or_0 s.kind) (shows_at t place)),
        );
  }

  pub foe_told : (is_living (member_at t.active.place t) ≡ true → IsFlag x.announced.seeded) → SideIsTold (exact t x) t
  unfolding foe_part
  foe_told seeded = record {
    first_type = sym (ap (λ (a : ActiveState). slice_index a.types 0) h.active);
    second_type = sym (ap (λ (a : ActiveState). slice_index a.types 1) h.active);
    mist = agree_flag _ _ k.mist (on 7);
    focus_energy = agree_flag _ _ k.focus_energy (on 8);
    disabled = agree_flag _ _ k.disabled (on 16);
    rage = agree_flag _ _ k.rage (on 11 ∙ and_same _ _ k.rages);
    seeded = λ z. agree_flag _ _ (seeded z) (on 12);
  }

  out_there : place_in x.place (members_of clause x.members fresh) ≡ member_state (member_at t.active.place t)
  unfolding foe_part
  out_there =
      let low = v.place.0 in
      ap (λ (n : ℕ). slice_index_or (members_of clause x.members fresh) (n - 1) no_member) (sym foe_place)
      ∙ sym (h.members (t.active.place - 1) (omega (arith, low, six)))
      ∙ (let back : t.active.place - 1 + 1 ≡ t.active.place = omega (arith, low) in ap (λ (n : ℕ). member_state (member_at n t)) back)

  -- The last move is one of the active member's in the guess, so also in the battle.
  last_use : IsUse x.last_move (member_state (member_at t.active.place t))
  last_use =
      let low = v.place.0 in
      let same : (member_state (member_at t.active.place t)).moves ≡ (place_in x.place fresh).moves =
      moves_there clause x held fresh t h (t.active.place - 1) (omega (arith, low, six)) ∙ ap (λ (n : ℕ). (place_in n fresh).moves) foe_place in
      λ z. subst (λ (ids : List ℕ). (x.last_move ≡ struggle) ⊎ (four (λ (j : ℕ). j == x.last_move) ids ≡ true)) (sym same) (fits.last z)

  pub foe_current : current_move_of t ≡ x.last_move
  unfolding foe_part
  foe_current = current_is t.active.current_move (member_at t.active.place t).moves x.last_move v.active.current_move (few_moves rules t v.members t.active.place)
      (ap (λ (a : ActiveState). a.current_move) h.active ∙ ap (λ (m : MemberState). used_slot x.last_move m.moves) out_there) last_use

  pub traps_on : is_some t.active.conditions.underway.trapping ≡ (held && traps (effect_of_number x.last_move))
  traps_on = on 2

  poison_is : unwrap_or t.active.conditions.bad_poison 0 ≡ on_if (is_on x.announced.toxic) x.announced.toxic_count
  unfolding foe_part
  poison_is = ap (λ (a : ActiveState). a.bad_poison) h.active ∙ ap (λ (b : Bool). on_if b x.announced.toxic_count) (bit_back (foe_bits x held) 13)

  pub foe_does : (is_living (member_at t.active.place t) ≡ true → is_on x.announced.toxic ≡ false → x.announced.toxic_count ≡ 0) → SideDoes (exact t x) t
  foe_does none = record {
    bide = agree_flag _ _ k.bide (on 0 ∙ and_same _ _ k.bides);
    charging = agree_flag _ _ k.charging (on 4 ∙ and_same _ _ k.charges);
    toxic = agree_flag _ _ k.toxic (on 13);
    toxic_count = λ z. counted_if (is_on x.announced.toxic) x.announced.toxic_count (none z) ∙ sym poison_is;
    invulnerable = λ z. on 5 ∙ reached x.invulnerable z;
    unused = k.unused;
    last_move = sym foe_current;
    recharge = λ z. by_number recharges refl x.last_move (both _ _ (sym (on 10) ∙ z)).1;
    rests = k.rests;
    uses = λ z. ap (λ (n : ℕ). new_uses n x) foe_current ∙ by (is_on x.announced.rage) refl (eqb_tells x.last_move x.last_move) (left_on z);
  }
    where
      reached : (n : ℕ) → n ≢ 0 → is_on n ≡ true
      reached n z = by_n (eqb_tells n 0)
        where
          by_n : Tells n 0 → is_on n ≡ true
          by_n (inl e) = absurd (z e.1)
          by_n (inr e) = ap not e.0

      -- What continues is trapping or rage.
      left_on : keeps_going t.active.conditions.underway ≡ true → (traps (effect_of_number x.last_move) ≡ true) ⊎ (is_on x.announced.rage ≡ true)
      left_on z = split (is_some t.active.conditions.underway.thrash) (is_some t.active.conditions.underway.trapping) t.active.conditions.underway.rage (on 1) traps_on (on 11) z
        where
          split : (a b c : Bool) → a ≡ false → b ≡ (held && traps (effect_of_number x.last_move)) → c ≡ (is_on x.announced.rage && rages (effect_of_number x.last_move)) → (a || b || c) ≡ true
              → (traps (effect_of_number x.last_move) ≡ true) ⊎ (is_on x.announced.rage ≡ true)
          split true b c e f g z = absurd (false≢true (sym e))
          split false true c e f g z = inl (both _ _ (sym f)).1
          split false false true e f g z = inr (both _ _ (sym g)).0
          split false false false e f g z = absurd (false≢true z)

      by : (r : Bool) → is_on x.announced.rage ≡ r → Tells x.last_move x.last_move → (traps (effect_of_number x.last_move) ≡ true) ⊎ (is_on x.announced.rage ≡ true) → new_uses x.last_move x ≡ 0
      by r e l (inr g) = ap (λ (b : Bool). if b || x.last_move == x.last_move && may_go_on (move_at x.last_move).effect then 0 else 1) g
      by r e (inr l) (inl g) = absurd (l.1 refl)
      by r e (inl l) (inl g) =
          let trapping : traps (move_at x.last_move).effect ≡ true = by_number traps refl x.last_move g in
          let may : may_go_on (move_at x.last_move).effect ≡ true = ap (λ (b : Bool). b || thrashes (move_at x.last_move).effect) trapping in
          let again : (x.last_move == x.last_move && may_go_on (move_at x.last_move).effect) ≡ true = ap (λ (b : Bool). b && may_go_on (move_at x.last_move).effect) l.0 ∙ may in
          ap (λ (b : Bool). if b then 0 else 1) (or_true (is_on x.announced.rage) (x.last_move == x.last_move && may_go_on (move_at x.last_move).effect) again)

  seen_is : (i : ℕ) → i < 6 → (seen_in i x.members).species ≢ 0 → let m = slice_index_or t.members i nobody in length m.moves ≤ 4
      → IsSeen (record (seen_in i x.members) { hp = m.hp; max = m.max }) m
  seen_is i low z few =
      let f = fits.members i low z in
      let e = told_there clause x held fresh t h i low z in
      record {
        species = f.species ∙ sym (ap (λ (m : MemberState). m.species) e);
        level = f.level ∙ sym (ap (λ (m : MemberState). m.level) e);
        max = refl;
        moves = λ j d within.
            let five = k.slots i in
            let same : (get_or (seen_in i x.members).moves j d).id ≡ id_in j (seen_in i x.members) =
            ap (λ (u : SeenMove). u.id) (same_default (seen_in i x.members).moves j d not_used within) in
            subst (λ (id : ℕ). IsMoveOf (slice_index_or t.members i nobody) id) (sym same)
            (is-move (slice_index_or t.members i nobody) few (id_in j (seen_in i x.members))
            (λ n. subst (λ (ids : List ℕ). (id_in j (seen_in i x.members) ≡ struggle) ⊎ (four (λ (q : ℕ). q == id_in j (seen_in i x.members)) ids ≡ true)) (sym (moves_there clause x held fresh t h i low))
            (f.uses j (omega (arith, within, five)) n)));
      }

  pub foe_sleeps : SideSleeps clause (exact t x) t
  foe_sleeps place z =
      let e = seen_exact (place - 1) z in
      subst (λ (s : Seen). IsAsleepBy clause s (member_at place t)) (sym e.2) (record {
        cause = told_cause (seen_in (place - 1) x.members) _ _ (k.causes (place - 1));
        mark = marked-by clause (seen_in (place - 1) x.members).status (seen_in (place - 1) x.members).asleep_by (is_marked (member_at place t).status)
            (ap (λ (m : MemberState). m.marked) (told_there clause x held fresh t h (place - 1) e.0 e.1));
        turns = (
            let s : Seen = seen_in (place - 1) x.members in
            let made = told_there clause x held fresh t h (place - 1) e.0 e.1 in
            let status : (member_state (member_at place t)).status ≡ s.status = ap (λ (m : MemberState). m.status) made in
            turns-left s (member_at place t) (ap (λ (m : MemberState). m.sleep) made ∙ ap (λ (i : ℕ). sleep_of i s) (sym status)) status (k.short (place - 1))
            );
      })

  foe_last : IsMoveOf (member_at t.active.place t) x.last_move
  foe_last = is-move (member_at t.active.place t) (few_moves rules t v.members t.active.place) x.last_move last_use

  pub foe_appeared : SideHasAppeared (exact t x) t
  foe_appeared = record {
    out = λ z.
        let low = v.place.0 in
        let few : x.place - 1 < 6 = (let e = foe_place in omega (arith, low, six, e)) in
        λ e. k.out z (sym (ap (λ (s : Seen). s.species) (exact_in t x (x.place - 1) few) ∙ exact_species t (x.place - 1) x) ∙ e);
    each = λ place z. let e = seen_exact (place - 1) z in
        subst (λ (s : Seen). IsSeen s (member_at place t)) (sym e.2) (seen_is (place - 1) e.0 e.1 (few_moves rules t v.members place));
    last_move = foe_last;
    recharging = λ z. knows_used (member_at t.active.place t) (few_moves rules t v.members t.active.place) x.last_move foe_last (k.rests z);
  }
