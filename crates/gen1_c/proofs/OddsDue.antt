-- The expected odds, and a battle whose members have just been sent out.
use Rattle.std.proofs.Common.{Bool, Err, List, None, Ok, Result, Some, arith, false, inl, inr, nat_le, refl, subst, sym, true, ℕ, ◌&&◌, ◌==◌, ◌≡◌, ◌⊎◌, if◌then◌else◌}
use Rattle.std.proofs.lemmas.Bool.Decides.{nat_tests}
use Rattle.gen1_machine.specs.declared.side.Side.{Side}
use Rattle.gen1_machine.specs.declared.side.Side.TheVariants.{One, Two}
use Rattle.gen1_machine.specs.Damage.{numbers_in}
use Rattle.gen1_machine.specs.Moves.{move_at, Move}
use Rattle.gen1_machine.specs.Numbers.{side_number}
use Rattle.gen1_machine.specs.State.{Field, State}
use Rattle.gen1_machine.specs.Valid.{IsStarted, IsUnstarted}
use Rattle.gen1_hits.specs.DamageNumbers.{damages, has_usual_damage}
use Rattle.gen1_layout.specs.Parts.{Parts}
use Rattle.gen1_layout.specs.Shows.{Stands, Within, setting_of}
use Rattle.gen1_layout.proofs.Storing.{within_of}
use Rattle.gen1_c.specs.Odds.{TellsDamages, damages_due, due_of, use_due, Tells}
use Rattle.gen1_machine.specs.declared.side.Choice.TheVariants.{Pass}
use Rattle.gen1_machine.specs.Rules.{Rules}
use Rattle.gen1_machine.specs.Step.{Accepted, Answer, Refused, step, Stepped}
use Rattle.gen1_machine.proofs.Fallen.{Standing}
use Rattle.gen1_engine.specs.declared.result.BattleResult.{BattleResult}
use Rattle.gen1_engine.specs.declared.result.Refusal.{Refusal}
use Rattle.gen1_engine.specs.Update.{Answers, AnswersAs}
use Rattle.gen1_room.proofs.Ending.{next_standing, not_refused, unbegun_offers, step_accepts}

-- The expected damage numbers, and battles with active members.

pub same_side : (a b : Side) → side_number a ≡ side_number b → a ≡ b
same_side One One e = refl
same_side One Two e = absurd (let f = e in cc)
same_side Two One e = absurd (let f = e in cc)
same_side Two Two e = refl

-- from turn 1 on both sides have an active member
pub within_out : {p : Parts} {s : State} → Stands p s → (s.field.turn ≡ 0 → ⊥) → Within (setting_of s) p s.field
within_out {p = p} {s = s} h out = by h.valid.field
  where
    by : IsUnstarted s.terms s.field ⊎ IsStarted s.terms s.field → Within (setting_of s) p s.field
    by (inl u) = absurd (out u.turn)
    by (inr v) = within_of p s h v.field

pub not_zero : (n : ℕ) → (n ≡ 0 → ⊥) → (n == 0) ≡ false
not_zero n apart = grind (arith, nat_tests)

-- the expected result, case by case

pub due_no_move : (side : Side) (id : ℕ) (critical : Bool) (f : Field) → (nat_le 1 id && nat_le id 165) ≡ false → damages_due side id critical f ≡ Err 11
unfolding damages_due
due_no_move side id critical f e = rw e refl

pub due_unusual : (side : Side) (id : ℕ) (critical : Bool) (f : Field) → (nat_le 1 id && nat_le id 165) ≡ true → has_usual_damage (move_at id) ≡ false
    → damages_due side id critical f ≡ Err 48
unfolding damages_due
due_unusual side id critical f e usual = rw (e, usual) refl

pub due_nobody : (side : Side) (id : ℕ) (critical : Bool) (f : Field) → (nat_le 1 id && nat_le id 165) ≡ true → has_usual_damage (move_at id) ≡ true
    → f.turn ≡ 0 → damages_due side id critical f ≡ Err 50
unfolding damages_due
due_nobody side id critical f e usual turn = rw (e, usual, turn) refl

pub due_list : (side : Side) (id : ℕ) (critical : Bool) (f : Field) (list : List ℕ) → (nat_le 1 id && nat_le id 165) ≡ true → has_usual_damage (move_at id) ≡ true
    → (f.turn ≡ 0 → ⊥) → damages (numbers_in side (move_at id) critical f) ≡ Some list → damages_due side id critical f ≡ Ok list
unfolding damages_due
due_list side id critical f list e usual apart is = rw (e, usual, not_zero f.turn apart, is) refl

pub due_divisor : (side : Side) (id : ℕ) (critical : Bool) (f : Field) → (nat_le 1 id && nat_le id 165) ≡ true → has_usual_damage (move_at id) ≡ true
    → (f.turn ≡ 0 → ⊥) → damages (numbers_in side (move_at id) critical f) ≡ None → damages_due side id critical f ≡ Err 49
unfolding damages_due
due_divisor side id critical f e usual apart is = rw (e, usual, not_zero f.turn apart, is) refl

-- and so it is what is returned
pub told : {due : Result (List ℕ) ℕ} (r : Result (List ℕ) ℕ) (old new : List ℕ) (code : ℕ) → due ≡ r → TellsDamages r old new code → TellsDamages due old new code
told r old new code e h = subst (λ (d : Result (List ℕ) ℕ). TellsDamages d old new code) (sym e) h

pub use_no_move : (side : Side) (id : ℕ) (f : Field) → (nat_le 1 id && nat_le id 165) ≡ false → use_due side id f ≡ Err 11
unfolding use_due
use_no_move side id f e = rw e refl

pub use_none_out : (side : Side) (id : ℕ) (f : Field) → (nat_le 1 id && nat_le id 165) ≡ true → f.turn ≡ 0 → use_due side id f ≡ Err 50
unfolding use_due
use_none_out side id f e turn = rw (e, turn) refl

pub use_value : (side : Side) (id : ℕ) (f : Field) → (nat_le 1 id && nat_le id 165) ≡ true → (f.turn ≡ 0 → ⊥) → use_due side id f ≡ Ok (side, id)
unfolding use_due
use_value side id f e apart = rw (e, not_zero f.turn apart) refl

-- before the first update no use has a value

by_tests : Side → ℕ → Bool → Bool → Result (Side × ℕ) ℕ
by_tests side id is none = if is then (if none then Err 50 else Ok (side, id)) else Err 11

not_out : (side : Side) (id : ℕ) (used : Side × ℕ) (is none : Bool) → none ≡ true → by_tests side id is none ≡ Ok used → ⊥
unfolding by_tests
not_out side id used true true z e = (let g = e in cc)
not_out side id used true false z e = (let g = z in cc)
not_out side id used false none z e = (let g = e in cc)

pub use_out : (side : Side) (id : ℕ) (f : Field) (used : Side × ℕ) → use_due side id f ≡ Ok used → f.turn ≡ 0 → ⊥
unfolding use_due by_tests
use_out side id f used e turn = not_out side id used (nat_le 1 id && nat_le id 165) (f.turn == 0) (rw turn refl) e

-- what a use has is what is returned
pub tells : {A : Type 0} (read : Rules → Side → Move → Field → A) (r : Rules) (f : Field) {due : Result (Side × ℕ) ℕ} (used : Result (Side × ℕ) ℕ) (old new : A) (code : ℕ)
    → used ≡ due → Tells (due_of read r f used) old new code → Tells (due_of read r f due) old new code
tells read r f used old new code e h = subst (λ (d : Result (Side × ℕ) ℕ). Tells (due_of read r f d) old new code) e h

-- the first update of a battle is accepted, and then there are active members

pub sends : (s : State) (old new : Parts) (result : Result BattleResult Refusal) → Stands old s → (s.field.turn == 0) ≡ true
    → Answers s Pass Pass old new result → Stands new (step s Pass Pass).state
sends s old new (Ok r) h zero answers = accepted (step s Pass Pass).answer (step s Pass Pass).state answers
  where
    accepted : (answer : Answer) (next : State) → AnswersAs answer next old new (Ok r) → Stands new next
    accepted (Refused reason) next a = absurd (let e = a.0 in cc)
    accepted (Accepted events) next a = a.1
sends s old new (Err why) h zero answers = absurd (not_refused s Pass Pass old new why (unbegun_offers s h zero) answers)

pub is_out : (s : State) (p : Parts) → Stands p s → (s.field.turn == 0) ≡ true → (step s Pass Pass).state.field.turn ≡ 0 → ⊥
is_out s p h zero none =
    let offers = unbegun_offers s h zero in
    let standing = subst (λ (x : Stepped). Standing s.terms x.state.field) (sym (step_accepts s Pass Pass offers)) (next_standing s Pass Pass h.valid offers) in
    absurd (let t = standing.turn in omega (arith, t, none))
