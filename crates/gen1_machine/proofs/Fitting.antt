-- What an offered choice implies about a valid field: a slot that is known while nothing is underway, or a place of
-- the party.
use Rattle.std.proofs.Common.{Bool, List, Option, [], arith, false, get_or, if◌then◌else◌, inl, inr, nat_lt, not, refl, suc, sym, true, ℕ, ◌&&◌, ◌++◌, ◌+◌, ◌-◌, ◌==◌, ◌||◌, ◌∙◌, ◌∷◌, ◌≡◌, ◌≢◌, ◌⊎◌, is_some, length, zero, ◌<◌, ◌≤◌}
use Rattle.std.proofs.lemmas.Bool.{false≢true}
use Rattle.std.proofs.lemmas.Bool.Decides.{eqb_tells}
use Rattle.gen1_machine.specs.declared.side.Choice.{Choice}
use Rattle.gen1_machine.specs.declared.side.DisabledSlot.{DisabledSlot}
use Rattle.gen1_machine.specs.declared.side.Side.{Side}
use Rattle.gen1_stats.specs.declared.member.KnownMove.{KnownMove}
use Rattle.gen1_stats.specs.Members.{is_living, nobody, Member, IsBetween, sleeps_or_freezes}
use Rattle.gen1_machine.specs.State.{active_in, conditions_in, member_at, member_in, party, underway_in, Field, Party, status_in, Terms}
use Rattle.gen1_machine.specs.OfferedChoices.{bars_slot, has_no_slot_in, is_committed, moves_offered, offered_for, or_struggle, others_living_from, switches_offered, usable_from}
use Rattle.gen1_machine.specs.Step.{is_among, same_choice}
use Rattle.gen1_machine.proofs.Turns.{Promises}
use Rattle.gen1_machine.specs.Sides.{other}
use Rattle.gen1_machine.specs.Picks.{must_continue}
use Rattle.gen1_machine.specs.Valid.{IsField, IsUnderway, OnlyWith}
use Rattle.gen1_machine.proofs.Sound.{party-valid}
use Rattle.gen1_machine.specs.declared.side.Choice.TheVariants as choices
use Rattle.gen1_machine.specs.declared.terms.Request.TheVariants as requests
use Rattle.gen1_tables.specs.declared.effect.Effect.TheVariants as effects

-- What an offered choice implies: a switch leads to a living member, and so does a replacement.

-- A switch to a living member of a list whose places begin at j.
abbrev pub LivesFrom : ℕ → Choice → List Member → Type 0
LivesFrom j (choices.Switch k) members = (i : ℕ) × (k ≡ j + i) × (is_living (get_or members i nobody) ≡ true)
LivesFrom j _ members = ⊥

later : (j : ℕ) (c : Choice) (m : Member) (members : List Member) → LivesFrom (j + 1) c members → LivesFrom j c (m ∷ members)
later j (choices.Switch k) m members h = (suc h.0, omega (arith, h.1), h.2)
later j choices.Pass m members h = h
later j (choices.Move k) m members h = h

here : (j : ℕ) (c : Choice) (m : Member) (members : List Member) (more : Bool) → is_living m ≡ true
    → (same_choice c (choices.Switch j) || more) ≡ true → (more ≡ true → LivesFrom j c (m ∷ members)) → LivesFrom j c (m ∷ members)
here j choices.Pass m members more l h k = k h
here j (choices.Move x) m members more l h k = k h
here j (choices.Switch x) m members more l h k = by (eqb_tells x j)
  where
    by : (((x == j) ≡ true) × (x ≡ j)) ⊎ (((x == j) ≡ false) × (x ≢ j)) → LivesFrom j (choices.Switch x) (m ∷ members)
    by (inl e) = (0, omega (arith, e.1), l)
    by (inr e) = k (rw e.0 at h)

pub among-others : (j out : ℕ) (c : Choice) (members : List Member) → is_among c (others_living_from j out members) ≡ true → LivesFrom j c members
among-others j out c [] h = absurd (false≢true h)
among-others j out c (m ∷ members) h =
    by (is_living m) (not (j == out)) refl h (λ e. later j c m members (among-others (j + 1) out c members e))
  where
    by : (l n : Bool) → is_living m ≡ l
        → is_among c (if l && n then choices.Switch j ∷ others_living_from (j + 1) out members else others_living_from (j + 1) out members) ≡ true
        → (is_among c (others_living_from (j + 1) out members) ≡ true → LivesFrom j c (m ∷ members)) → LivesFrom j c (m ∷ members)
    by true true e h k = here j c m members (is_among c (others_living_from (j + 1) out members)) e h k
    by true false e h k = k h
    by false n e h k = k h

-- A replacement leads to a living member.
abbrev pub Replaces : Choice → Party → Type 0
Replaces (choices.Switch place) t = is_living (member_at place t) ≡ true
Replaces _ t = ⊥

lives-replaces : (c : Choice) (t : Party) → LivesFrom 1 c t.members → Replaces c t
lives-replaces (choices.Switch place) t h = let e : place - 1 ≡ h.0 = omega (arith, h.1) in rw e h.2
lives-replaces choices.Pass t h = h
lives-replaces (choices.Move k) t h = h

replaces-promises : (c : Choice) (t : Party) → Replaces c t → Promises c t
replaces-promises (choices.Switch place) t h = inr h
replaces-promises choices.Pass t h = tt
replaces-promises (choices.Move k) t h = tt

pub offered-replaces : (s : Side) (c : Choice) (f : Field) → is_among c (switches_offered s f) ≡ true → Replaces c (party s f)
offered-replaces s c f h = lives-replaces c (party s f) (among-others 1 (active_in s f).place c (party s f).members h)

-- No switch is among the moves

pub among-append : (c : Choice) (xs ys : List Choice) → is_among c (xs ++ ys) ≡ true → (is_among c xs ≡ true) ⊎ (is_among c ys ≡ true)
among-append c [] ys h = inr h
among-append c (x ∷ xs) ys h = by (same_choice c x) h (among-append c xs ys)
  where
    by : (b : Bool) → (b || is_among c (xs ++ ys)) ≡ true → (is_among c (xs ++ ys) ≡ true → (is_among c xs ≡ true) ⊎ (is_among c ys ≡ true))
        → ((b || is_among c xs) ≡ true) ⊎ (is_among c ys ≡ true)
    by true h k = inl refl
    by false h k = k h

usable-moves : (k : ℕ) (disabled : Option DisabledSlot) (moves : List KnownMove) (n : ℕ) → is_among (choices.Switch n) (usable_from k disabled moves) ≡ false
usable-moves k disabled [] n = refl
usable-moves k disabled (m ∷ moves) n = by (nat_lt 0 m.pp && not (bars_slot disabled k)) (usable-moves (k + 1) disabled moves n)
  where
    by : (b : Bool) → is_among (choices.Switch n) (usable_from (k + 1) disabled moves) ≡ false
        → is_among (choices.Switch n) (if b then choices.Move k ∷ usable_from (k + 1) disabled moves else usable_from (k + 1) disabled moves) ≡ false
    by true h = h
    by false h = h

struggle-moves : (xs : List Choice) (n : ℕ) → is_among (choices.Switch n) xs ≡ false → is_among (choices.Switch n) (or_struggle xs) ≡ false
struggle-moves [] n h = refl
struggle-moves (x ∷ xs) n h = h

pub offered-moves : (s : Side) (f : Field) (n : ℕ) → is_among (choices.Switch n) (moves_offered s f) ≡ false
offered-moves s f n = by (has_no_slot_in s f)
  where
    usable : List Choice
    usable = usable_from 1 (conditions_in s f).disabled (member_in s f).moves

    by : (b : Bool) → is_among (choices.Switch n) (if b then choices.Move 0 ∷ [] else or_struggle usable) ≡ false
    by true = refl
    by false = struggle-moves usable n (usable-moves 1 (conditions_in s f).disabled (member_in s f).moves n)

offered-turn : (s : Side) (c : Choice) (f : Field) (committed : Bool)
    → is_among c (if committed then choices.Move 0 ∷ [] else moves_offered s f ++ switches_offered s f) ≡ true → Promises c (party s f)
offered-turn s (choices.Switch place) f true h = absurd (false≢true h)
offered-turn s (choices.Switch place) f false h = by (among-append (choices.Switch place) (moves_offered s f) (switches_offered s f) h)
  where
    by : (is_among (choices.Switch place) (moves_offered s f) ≡ true) ⊎ (is_among (choices.Switch place) (switches_offered s f) ≡ true)
        → Promises (choices.Switch place) (party s f)
    by (inl e) = absurd (false≢true (sym (offered-moves s f place) ∙ e))
    by (inr e) = replaces-promises (choices.Switch place) (party s f) (offered-replaces s (choices.Switch place) f e)
offered-turn s choices.Pass f committed h = tt
offered-turn s (choices.Move k) f committed h = tt

pub offered-promises : (s : Side) (c : Choice) (f : Field) → is_among c (offered_for requests.Move s f) ≡ true → Promises c (party s f)
offered-promises s c f h = offered-turn s c f (is_committed (underway_in s f)) h

-- If nothing is asked for, only Pass is offered.
abbrev pub Passes : Choice → Type 0
Passes choices.Pass = Unit {0}
Passes _ = ⊥

pub offered-passes : (c : Choice) → is_among c (choices.Pass ∷ []) ≡ true → Passes c
offered-passes choices.Pass h = tt
offered-passes (choices.Move k) h = absurd (false≢true h)
offered-passes (choices.Switch k) h = absurd (false≢true h)

abbrev pub Fits : Choice → Side → Field → Type 0
Fits (choices.Move (suc k)) s f = (suc k ≤ length (member_in s f).moves) × IsUnderway effects.DamageOnly (underway_in s f)
Fits (choices.Move zero) s f = Unit {0}
Fits (choices.Switch place) s f = IsBetween 1 (length (party s f).members) place
Fits choices.Pass s f = Unit {0}

-- Places

lives-inside : (members : List Member) (i : ℕ) → is_living (get_or members i nobody) ≡ true → i < length members
lives-inside [] i h = absurd (false≢true h)
lives-inside (m ∷ members) zero h = omega arith
lives-inside (m ∷ members) (suc i) h = omega (arith, lives-inside members i h)

pub offered-place : (s : Side) (place : ℕ) (f : Field) → is_among (choices.Switch place) (switches_offered s f) ≡ true
    → IsBetween 1 (length (party s f).members) place
offered-place s place f h =
    let lives = among-others 1 (active_in s f).place (choices.Switch place) (party s f).members h in
    (omega (arith, lives.1), omega (arith, lives.1, lives-inside (party s f).members lives.0 lives.2))

-- Slots

not-zero : (k : ℕ) → is_among (choices.Move (suc k)) (choices.Move 0 ∷ []) ≡ true → ⊥
not-zero k h = by (eqb_tells (suc k) 0)
  where
    by : (((suc k == 0) ≡ true) × (suc k ≡ 0)) ⊎ (((suc k == 0) ≡ false) × (suc k ≢ 0)) → ⊥
    by (inl e) = omega (arith, e.1)
    by (inr e) = false≢true (rw e.0 at h)

usable-inside : (k n : ℕ) (disabled : Option DisabledSlot) (moves : List KnownMove) → is_among (choices.Move n) (usable_from k disabled moves) ≡ true → n < k + length moves
usable-inside k n disabled [] h = absurd (false≢true h)
usable-inside k n disabled (m ∷ moves) h = by (nat_lt 0 m.pp && not (bars_slot disabled k)) (eqb_tells n k) h (λ e. usable-inside (k + 1) n disabled moves e)
  where
    by : (b : Bool) → (((n == k) ≡ true) × (n ≡ k)) ⊎ (((n == k) ≡ false) × (n ≢ k))
        → is_among (choices.Move n) (if b then choices.Move k ∷ usable_from (k + 1) disabled moves else usable_from (k + 1) disabled moves) ≡ true
        → (is_among (choices.Move n) (usable_from (k + 1) disabled moves) ≡ true → n < (k + 1) + length moves) → n < k + length (m ∷ moves)
    by true (inl e) h more = omega (arith, e.1)
    by true (inr e) h more = omega (arith, more (rw e.0 at h))
    by false e h more = omega (arith, more h)

or-struggle : (k n : ℕ) (xs : List Choice) → (is_among (choices.Move (suc k)) xs ≡ true → suc k < n) → is_among (choices.Move (suc k)) (or_struggle xs) ≡ true → suc k < n
or-struggle k n [] more h = absurd (not-zero k h)
or-struggle k n (x ∷ xs) more h = more h

four : (a b c d : Bool) → (a || b || c || d) ≡ false → (a ≡ false) × (b ≡ false) × (c ≡ false) × (d ≡ false)
four true b c d e = absurd (false≢true (sym e))
four false true c d e = absurd (false≢true (sym e))
four false false true d e = absurd (false≢true (sym e))
four false false false true e = absurd (false≢true (sym e))
four false false false false e = (refl, refl, refl, refl)

never : {tie b : Bool} → b ≡ false → OnlyWith tie b
never e on = absurd (false≢true (sym e ∙ on))

-- Nothing is underway.
plain : {terms : Terms} (s : Side) (f : Field) → IsField terms f → (underway_in s f).recharge ≡ false → (underway_in s f).rage ≡ false → is_some (underway_in s f).thrash ≡ false
    → (underway_in s f).charging ≡ false → is_some (underway_in s f).bide ≡ false → is_some (underway_in s f).trapping ≡ false → IsUnderway effects.DamageOnly (underway_in s f)
plain s f h recharge rage thrash charging bide trapping =
    let u = (party-valid s f h).active.conditions.underway in
    record {
      bide = u.bide;
      thrash = u.thrash;
      trapping = u.trapping;
      bide_tied = never bide;
      thrash_tied = never thrash;
      trapping_tied = never trapping;
      charging_tied = never charging;
      recharge_tied = never recharge;
      rage_tied = never rage;
    }

slot-fits : {terms : Terms} (s : Side) (k : ℕ) (f : Field) → IsField terms f → is_committed (underway_in s f) ≡ false → is_among (choices.Move (suc k)) (moves_offered s f) ≡ true
    → Fits (choices.Move (suc k)) s f
slot-fits s k f h free among = by (has_no_slot_in s f) refl among
  where
    moves : List KnownMove
    moves = (member_in s f).moves

    by : (b : Bool) → has_no_slot_in s f ≡ b
        → is_among (choices.Move (suc k)) (if b then choices.Move 0 ∷ [] else or_struggle (usable_from 1 (conditions_in s f).disabled (member_in s f).moves)) ≡ true
        → (suc k ≤ length (member_in s f).moves) × IsUnderway effects.DamageOnly (underway_in s f)
    by true e among = absurd (not-zero k among)
    by false e among =
        let u = underway_in s f in
        let some = four u.recharge u.rage (is_some u.thrash) u.charging free in
        let slots = four (sleeps_or_freezes (status_in s f)) (is_some u.bide) (is_some u.trapping) (is_some (underway_in (other s) f).trapping) e in
        let inside : suc k < 1 + length (member_in s f).moves =
        or-struggle k (1 + length (member_in s f).moves) (usable_from 1 (conditions_in s f).disabled (member_in s f).moves)
        (usable-inside 1 (suc k) (conditions_in s f).disabled (member_in s f).moves) among in
        (omega (arith, inside), plain s f h some.0 some.1 some.2 some.3 slots.1 slots.2)

committed-fits : {terms : Terms} (s : Side) (c : Choice) (f : Field) (b : Bool) → is_committed (underway_in s f) ≡ b → IsField terms f
    → is_among c (if b then choices.Move 0 ∷ [] else moves_offered s f ++ switches_offered s f) ≡ true → Fits c s f
committed-fits s choices.Pass f b e h among = tt
committed-fits s (choices.Move zero) f b e h among = tt
committed-fits s (choices.Move (suc k)) f true e h among = absurd (not-zero k among)
committed-fits s (choices.Move (suc k)) f false e h among = by (among-append (choices.Move (suc k)) (moves_offered s f) (switches_offered s f) among)
  where
    by : (is_among (choices.Move (suc k)) (moves_offered s f) ≡ true) ⊎ (is_among (choices.Move (suc k)) (switches_offered s f) ≡ true) → Fits (choices.Move (suc k)) s f
    by (inl m) = slot-fits s k f h e m
    by (inr m) = absurd (among-others 1 (active_in s f).place (choices.Move (suc k)) (party s f).members m)
committed-fits s (choices.Switch place) f true e h among = absurd (false≢true among)
committed-fits s (choices.Switch place) f false e h among = by (among-append (choices.Switch place) (moves_offered s f) (switches_offered s f) among)
  where
    by : (is_among (choices.Switch place) (moves_offered s f) ≡ true) ⊎ (is_among (choices.Switch place) (switches_offered s f) ≡ true) → Fits (choices.Switch place) s f
    by (inl m) = absurd (false≢true (sym (offered-moves s f place) ∙ m))
    by (inr m) = offered-place s place f m

pub offered-fits : {terms : Terms} (s : Side) (c : Choice) (f : Field) → IsField terms f → is_among c (offered_for requests.Move s f) ≡ true → Fits c s f
offered-fits s c f h among = committed-fits s c f (is_committed (underway_in s f)) refl h among

six : (a b c d e g : Bool) → (a || b || c || d || e || g) ≡ false → (a ≡ false) × (b ≡ false) × (c ≡ false) × (d ≡ false) × (e ≡ false) × (g ≡ false)
six true b c d e g h = absurd (false≢true (sym h))
six false true c d e g h = absurd (false≢true (sym h))
six false false true d e g h = absurd (false≢true (sym h))
six false false false true e g h = absurd (false≢true (sym h))
six false false false false true g h = absurd (false≢true (sym h))
six false false false false false true h = absurd (false≢true (sym h))
six false false false false false false h = (refl, refl, refl, refl, refl, refl)

-- A member that need not continue has nothing underway.
pub free-plain : {terms : Terms} (s : Side) (f : Field) → IsField terms f → must_continue (underway_in s f) ≡ false → IsUnderway effects.DamageOnly (underway_in s f)
free-plain s f h e =
    let u = underway_in s f in
    let none = six u.recharge u.rage (is_some u.thrash) u.charging (is_some u.bide) (is_some u.trapping) e in
    plain s f h none.0 none.1 none.2 none.3 none.4 none.5
