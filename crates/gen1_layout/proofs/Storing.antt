-- A field of a battle is storable. The bytes of a started state represent its field inside an update.
use Rattle.std.proofs.Common.{◌+◌, ◌≤◌}
use Rattle.gen1_layout.proofs.Words.{Bool, DisabledSlot, Field, None, Option, Parts, Some, Within, arith, false, is_some, lit≤, refl, subst, sym, true, ℕ}
use Rattle.gen1_tables.specs.declared.effect.Effect.{Effect}
use Rattle.gen1_tables.specs.declared.effect.Effect.TheVariants.{Bide, Thrash, Trapping}
use Rattle.gen1_machine.specs.Rules.{bit_of, Rules}
use Rattle.gen1_machine.specs.Conditions.{Storing, Underway}
use Rattle.gen1_tables.specs.Effects.{bides, thrashes, traps}
use Rattle.gen1_machine.specs.State.{Party, State, Terms}
use Rattle.gen1_machine.specs.Valid.{IsCount, IsDisabled, IsField, IsOutcome, IsParty, IsStoring, IsUnderway, IsUnstarted, OnlyWith}
use Rattle.gen1_layout.specs.Shows.{IsStorable, IsStorableBide, IsStorableDisabled, IsStorableParty, IsStorableUnderway, Packs, setting_of, Stands}

-- No move bides, thrashes and traps at once.
alone : (e : Effect) → bit_of (bides e) + bit_of (thrashes e) + bit_of (traps e) ≤ 1
alone Bide = lit≤ tt
alone Thrash = lit≤ tt
alone Trapping = lit≤ tt
alone _ = lit≤ tt

tied : (a b : Bool) → OnlyWith a b → bit_of b ≤ bit_of a
tied true true h = lit≤ tt
tied true false h = lit≤ tt
tied false false h = lit≤ tt
tied false true h = let e = h refl in cc

count : (low high : ℕ) (o : Option ℕ) → IsCount low high o → IsCount 0 high o
count low high None h = tt
count low high (Some n) h = (omega arith, h.1)

bide : (o : Option Storing) → IsStoring o → IsStorableBide o
bide None h = tt
bide (Some b) h = (h.0.1, h.1)

disabled : (n : ℕ) (o : Option DisabledSlot) → IsDisabled n o → IsStorableDisabled n o
disabled n None h = tt
disabled n (Some d) h = (h.0, h.1.1)

underway : (e : Effect) (u : Underway) → IsUnderway e u → IsStorableUnderway u
underway e u h =
    let a = tied (bides e) (is_some u.bide) h.bide_tied in let b = tied (thrashes e) (is_some u.thrash) h.thrash_tied in
    let c = tied (traps e) (is_some u.trapping) h.trapping_tied in let one = alone e in
    record { bide = bide u.bide h.bide; thrash = count 1 3 u.thrash h.thrash; trapping = count 0 4 u.trapping h.trapping; alone = omega arith }

party : (rules : Rules) (t : Party) → IsParty rules t → IsStorableParty rules t
party rules t h =
    let a = h.active in let c = a.conditions in let d = t.active.conditions in
    record {
      members = h.members;
      place = h.place;
      active = record {
        stages = a.stages;
        current_move = a.current_move;
        picked_move = a.picked_move;
        kept_accuracy = a.kept_accuracy;
        conditions = record {
          underway = underway _ d.underway c.underway;
          confused = count 1 5 d.confused c.confused;
          substitute = c.substitute;
          bad_poison = c.bad_poison;
          disabled = disabled _ d.disabled c.disabled;
        };
      };
    }

pub storable_of : (terms : Terms) (f : Field) → IsField terms f → IsStorable terms f
storable_of terms f h = record {
  one = party terms.rules f.one h.one;
  two = party terms.rules f.two h.two;
  last_damage = h.last_damage;
  turn = h.turn;
  outcome = h.outcome;
}

-- From turn 1 on.
pub within_of : (p : Parts) (s : State) → Stands p s → IsField s.terms s.field → Within (setting_of s) p s.field
within_of p s h field = record { same = h.same; terms = h.valid.terms; seed = h.valid.seed; storable = storable_of s.terms s.field field }

-- Before the first update.
pub packed_at : (p : Parts) (s : State) → Stands p s → IsUnstarted s.terms s.field → Packs (setting_of s) p s.field
packed_at p s h field = record {
  same = h.same;
  terms = h.valid.terms;
  seed = h.valid.seed;
  one = field.members_one;
  two = field.members_two;
  last_damage = field.last_damage;
  turn = omega (arith, field.turn);
  outcome = subst IsOutcome (sym field.outcome) tt;
}
