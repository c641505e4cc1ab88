-- What is underway for a member that is out, of which at most one thing is on, and its counts after a turn.
use Rattle.std.proofs.Common.{◌+◌, ◌-◌, ◌≡◌, ◌≤◌, refl}
use Rattle.gen1_layout.proofs.Words.{Field, None, Option, Progress, Side, Some, ap, arith, changed_active, changed_conditions, false, is_some, subst, sym, true, underway_in, ℕ, ◌∙◌}
use Rattle.std.proofs.lemmas.Bool.{false≢true}
use Rattle.gen1_tables.specs.declared.effect.Effect.{Effect}
use Rattle.gen1_machine.specs.declared.side.Side.TheVariants.{One, Two}
use Rattle.gen1_machine.specs.Conditions.{energy_with, with_bide_storing, with_thrash_one_less, with_trapping_one_less, Storing, Underway, with_charging, with_invulnerability, ActiveConditions}
use Rattle.gen1_machine.specs.Layout.{energy_of}
use Rattle.gen1_tables.specs.Effects.{bides, thrashes, traps}
use Rattle.gen1_machine.specs.Plans.{Doing, Plan}
use Rattle.gen1_machine.specs.Rules.{bit_of}
use Rattle.gen1_machine.specs.Sides.{other}
use Rattle.gen1_machine.specs.State.{Terms}
use Rattle.gen1_machine.specs.Valid.{IsUnderway}
use Rattle.gen1_machine.proofs.Sound.{party-valid, planned-holds}
use Rattle.gen1_layout.specs.Parts.{turns_stored}
use Rattle.gen1_layout.specs.Shows.{IsStorableUnderway}
use Rattle.gen1_hits.specs.Planned.{Follows}
use Rattle.gen1_hits.proofs.Planning.{nothing-there}
use Rattle.gen1_layout.specs.Words.{SameNumbers}
use Rattle.gen1_tables.specs.declared.effect.Effect.TheVariants as effects

none-on : {A : Type 0} (o : Option A) → bit_of (is_some o) ≤ 0 → o ≡ None
none-on None h = refl
none-on (Some x) h = absurd (omega (arith, h))

pub beside-trapping : (u : Underway) (turns : ℕ) → IsStorableUnderway u → u.trapping ≡ Some turns → (u.bide ≡ None) × (u.thrash ≡ None)
beside-trapping u turns h is =
    let sum = subst (λ (o : Option ℕ). bit_of (is_some u.bide) + bit_of (is_some u.thrash) + bit_of (is_some o) ≤ 1) is h.alone in
    (none-on u.bide (omega (arith, sum)), none-on u.thrash (omega (arith, sum)))

-- One turn less

pub less_trapping : (c : ActiveConditions) (turns : ℕ) → c.underway.trapping ≡ Some turns
    → with_trapping_one_less c ≡ record c { underway = record c.underway { trapping = Some (turns - 1) } }
unfolding with_trapping_one_less
less_trapping c turns e = rw e refl

pub none_trapping : (c : ActiveConditions) → c.underway.trapping ≡ None → with_trapping_one_less c ≡ c
unfolding with_trapping_one_less
none_trapping c e = rw e refl

-- What is underway for a member stays as it is when its foe changes.
pub foe-apart : (s t : Side) (change : ActiveConditions → ActiveConditions) (f : Field) → t ≡ other s → underway_in s (changed_conditions t change f) ≡ underway_in s f
unfolding changed_conditions changed_active
foe-apart One t change f e = rw e refl
foe-apart Two t change f e = rw e refl

-- Thrashing and Bide

pub beside-thrash : (u : Underway) (turns : ℕ) → IsStorableUnderway u → u.thrash ≡ Some turns → (u.bide ≡ None) × (u.trapping ≡ None)
beside-thrash u turns h is =
    let sum = subst (λ (o : Option ℕ). bit_of (is_some u.bide) + bit_of (is_some o) + bit_of (is_some u.trapping) ≤ 1) is h.alone in
    (none-on u.bide (omega (arith, sum)), none-on u.trapping (omega (arith, sum)))

pub beside-bide : (u : Underway) (b : Storing) → IsStorableUnderway u → u.bide ≡ Some b → (u.thrash ≡ None) × (u.trapping ≡ None)
beside-bide u b h is =
    let sum = subst (λ (o : Option Storing). bit_of (is_some o) + bit_of (is_some u.thrash) + bit_of (is_some u.trapping) ≤ 1) is h.alone in
    (none-on u.thrash (omega (arith, sum)), none-on u.trapping (omega (arith, sum)))

pub less_thrash : (c : ActiveConditions) (turns : ℕ) → c.underway.thrash ≡ Some turns
    → with_thrash_one_less c ≡ record c { underway = record c.underway { thrash = Some (turns - 1) } }
unfolding with_thrash_one_less
less_thrash c turns e = rw e refl

pub more_energy : (c : ActiveConditions) (damage : ℕ) (b : Storing) (turns energy : ℕ) → c.underway.bide ≡ Some b → turns ≡ b.turns - 1 → energy ≡ energy_with damage b
    → with_bide_storing damage c ≡ record c { underway = record c.underway { bide = Some (record { turns = turns; energy = energy }) } }
unfolding with_bide_storing
more_energy c damage b turns energy e few much = rw (e, few, much) refl

-- What Bide has stored, by its turns and its energy

or_zero : Option ℕ → ℕ
or_zero None = 0
or_zero (Some n) = n

pub stored-is : (o : Option Storing) (turns : ℕ) → turns_stored o ≡ Some turns → o ≡ Some (record { turns = turns; energy = energy_of o })
unfolding or_zero
stored-is None turns e = cc
stored-is (Some b) turns e = ap (λ (n : ℕ). Some (record { turns = n; energy = b.energy })) (ap or_zero e)

pub not-stored : (o : Option Storing) → turns_stored o ≡ None → o ≡ None
not-stored None e = refl
not-stored (Some b) e = cc

-- What a move that thrashes, or Bide, finds underway

thrashes-bides : (e : Effect) → thrashes e ≡ true → bides e ≡ false
thrashes-bides effects.Thrash h = refl
thrashes-bides effects.Bide h = absurd (false≢true h)
thrashes-bides _ h = refl

thrashes-traps : (e : Effect) → thrashes e ≡ true → traps e ≡ false
thrashes-traps effects.Thrash h = refl
thrashes-traps effects.Trapping h = absurd (false≢true h)
thrashes-traps _ h = refl

bides-thrashes : (e : Effect) → bides e ≡ true → thrashes e ≡ false
bides-thrashes effects.Bide h = refl
bides-thrashes effects.Thrash h = absurd (false≢true h)
bides-thrashes _ h = refl

bides-traps : (e : Effect) → bides e ≡ true → traps e ≡ false
bides-traps effects.Bide h = refl
bides-traps effects.Trapping h = absurd (false≢true h)
bides-traps _ h = refl

module _ (terms : Terms) (plan : Side → Plan) (s : Side) (e : Effect) (p : Progress) (doing : plan s ≡ Doing e) where
  tied : Follows terms plan p → IsUnderway e (underway_in s p.field)
  tied h =
      let now = planned-holds s p.field p.action p.stream doing h in
      subst (λ (x : Effect). IsUnderway x (underway_in s p.field)) now (party-valid s p.field h.field).active.conditions.underway

  pub alone-thrashing : thrashes e ≡ true → Follows terms plan p → ((underway_in s p.field).bide ≡ None) × ((underway_in s p.field).trapping ≡ None)
  alone-thrashing tie h =
      let u = tied h in
      (nothing-there _ (λ on. sym (thrashes-bides e tie) ∙ u.bide_tied on), nothing-there _ (λ on. sym (thrashes-traps e tie) ∙ u.trapping_tied on))

  pub alone-biding : bides e ≡ true → Follows terms plan p → ((underway_in s p.field).thrash ≡ None) × ((underway_in s p.field).trapping ≡ None)
  alone-biding tie h =
      let u = tied h in
      (nothing-there _ (λ on. sym (bides-thrashes e tie) ∙ u.thrash_tied on), nothing-there _ (λ on. sym (bides-traps e tie) ∙ u.trapping_tied on))

-- Setting a condition without a number keeps all numbers.

pub charged-same : (c : ActiveConditions) → SameNumbers (with_charging c) c
unfolding with_charging
charged-same c = record { bide = refl; thrash = refl; trapping = refl; confused = refl; substitute = refl; bad_poison = refl; disabled = refl }

pub hidden-same : (c : ActiveConditions) → SameNumbers (with_invulnerability c) c
unfolding with_invulnerability
hidden-same c = record { bide = refl; thrash = refl; trapping = refl; confused = refl; substitute = refl; bad_poison = refl; disabled = refl }
