-- A list of outcomes, by what the step says of the pair.
use Rattle.std.proofs.Common.{Some, arith, ℕ, ◌+◌, ◌≡◌, Bool, IfSome, None, Ok, Option, Result, false, refl, subst, true}
use Rattle.gen1_machine.specs.declared.side.Choice.{Choice}
use Rattle.gen1_machine.specs.State.{State, is_over}
use Rattle.gen1_machine.specs.Step.{Accepted, Answer, Refused, answered, opened, update}
use Rattle.gen1_layout.specs.Parts.{Parts}
use Rattle.gen1_engine.specs.Replay.{both, choices_at, offers_if, or_pass, step_by_bytes}
use Rattle.gen1_engine.specs.Update.{AreOffered, refusal_number, refusal_of}
use Rattle.gen1_outcomes.specs.declared.successor.OutcomeOptions.{OutcomeOptions}
use Rattle.gen1_c.specs.declared.outcomes.OutcomeList.{OutcomeList}
use Rattle.gen1_c.specs.Outcomes.{AreListed, Arrays, ListsAs, refusal_due, Offers}
use Rattle.gen1_c.specs.Battle.{AnsweredAs}
use Rattle.gen1_machine.specs.declared.side.Side.TheVariants.{One, Two}
use Rattle.gen1_machine.specs.Choices.{choice_at}
use Rattle.gen1_machine.specs.Progress.{Progress}
use Rattle.gen1_machine.specs.Ruling.{ruling_of}
use Rattle.gen1_outcomes.specs.declared.successor.OutcomesFault.{OutcomesFault}
use Rattle.gen1_outcomes.specs.declared.nodes.Chance.{Chance}

pub code_answered : (answer : Answer) (next : State) (old new : Parts) (code : ℕ) → AnsweredAs answer next old new code → code ≡ refusal_due answer
code_answered (Refused why) next old new code h = h.0
code_answered (Accepted events) next old new code h = h.0

-- no pair is refused with the code 0
pub lists_choices : (answer : Answer) (s : State) (bytes : ℕ × ℕ) (options : OutcomeOptions) (old new : Arrays) (list : OutcomeList) (code : ℕ) (pair : Choice × Choice)
    → 0 ≡ refusal_due answer → choices_at bytes ≡ Some pair → (code ≡ 0 → AreListed s pair.0 pair.1 options new.successors list)
    → ListsAs answer s bytes options old new list code
lists_choices (Refused why) s bytes options old new list code pair e is h = absurd (let f : 0 ≡ 23 + refusal_number (refusal_of why) = e in omega (arith, f))
lists_choices (Accepted events) s bytes options old new list code pair e is h = λ z. (pair, is, h z)

-- The ways of an update, one after the other.

-- no refusal has the code 0
none_due : (A : Type 0) (n : ℕ) → 23 + n ≡ 0 → A
none_due A n e = absurd (omega (arith, e))

-- a pair with the code 0 is offered
pub offers_pair : (s : State) (bytes : ℕ × ℕ) → refusal_due (step_by_bytes s bytes).answer ≡ 0 → Offers s bytes
unfolding step_by_bytes answered
offers_pair s bytes e =
    by (is_over s.field.outcome) (choice_at bytes.0) (choice_at bytes.1) (offers_if s One (choice_at bytes.0)) (offers_if s Two (choice_at bytes.1)) refl refl refl refl e
  where
    by : (over : Bool) (first second : Option Choice) (f g : Bool) → choice_at bytes.0 ≡ first → choice_at bytes.1 ≡ second
        → offers_if s One first ≡ f → offers_if s Two second ≡ g
        → refusal_due (answered s over f g (update (ruling_of s.terms) (or_pass (choice_at bytes.0)) (or_pass (choice_at bytes.1)) (opened s))).answer ≡ 0
        → Offers s bytes
    by true first second f g is is' o o' e = none_due (Offers s bytes) 1 e
    by false first second false g is is' o o' e = none_due (Offers s bytes) 2 e
    by false first second true false is is' o o' e = none_due (Offers s bytes) 3 e
    by false None second true true is is' o o' e = absurd (let x : false ≡ true = o in cc)
    by false (Some one) None true true is is' o o' e = absurd (let x : false ≡ true = o' in cc)
    by false (Some one) (Some two) true true is is' o o' e = ((one, two), rw (is, is') refl, record { first = o; second = o' })

-- what holds of each way that is found holds of this one
pub of_found : (P : Type 0) (way : Option Chance) (chance : Chance) → way ≡ Some chance → IfSome way (λ _. P) → P
of_found P (Some found) chance e h = h
of_found P None chance e h = absurd (cc)

pub found_is : (P : Chance → Type 0) (way : Option Chance) (chance : Chance) → way ≡ Some chance → IfSome way P → P chance
found_is P way chance is h = subst (λ (it : Option Chance). IfSome it P) is h

-- a way that is found is not none
pub not_none : (way : Option Chance) (chance : Chance) (a b : Result (Option Chance) OutcomesFault) → way ≡ Some chance → a ≡ Ok way → b ≡ Ok None → a ≡ b → ⊥
not_none way chance a b found is none same = cc
