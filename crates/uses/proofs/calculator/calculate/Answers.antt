use Rattle.std.proofs.Common.{Bool, List, None, Option, Some, ap, refl, ℕ, ◌∙◌, ◌≡◌}
use Rattle.std.specs.Prelude.{option_map}
use Rattle.gen1_machine.specs.declared.side.Side.{Side}
use Rattle.gen1_machine.specs.CriticalHits.{critical_bound_in}
use Rattle.gen1_machine.specs.Damage.{numbers_in}
use Rattle.gen1_machine.specs.HitTest.{scaled_in}
use Rattle.gen1_machine.specs.Moves.{Move, accuracy_byte, move_at}
use Rattle.gen1_machine.specs.Sides.{other}
use Rattle.gen1_machine.specs.State.{Field, member_in}
use Rattle.gen1_hits.specs.DamageNumbers.{damages}
use Rattle.uses.specs.declared.calculator.Calculation.{Calculation}
use Rattle.uses.specs.Examples.{calculation_in, calculation_of, taking_all}
use Rattle.uses.proofs.calculator.calculate.Goals as goal

abbrev made : List ℕ → ℕ → ℕ → ℕ → Calculation
made list knock_outs hits criticals = record { damages = list; knock_outs = knock_outs; hits = hits; criticals = criticals }

made-same : (list : List ℕ) (a a' b b' d d' : ℕ) → a ≡ a' → b ≡ b' → d ≡ d' → made list a b d ≡ made list a' b' d'
made-same list a a' b b' d d' e f g i = made list (e i) (f i) (g i)

calculated : (s : Side) (move : Move) (critical : Bool) (f : Field) (found : Option (List ℕ)) → found ≡ damages (numbers_in s move critical f)
    → option_map (calculation_of s move f) found ≡ calculation_in s move critical f
unfolding calculation_in
calculated s move critical f found e = ap (λ (o : Option (List ℕ)). option_map (calculation_of s move f) o) e

pub returns-in_err-damages : goal.returns-in_err-damages
returns-in_err-damages c g f within =
    c.from_residual.ensures
    ∙ calculated c.args.side (move_at c.args.id) c.args.critical f None (c.in_err-damages.ensures ∙ ap damages (c.numbers.ensures.stands g f within))

pub returns : goal.returns
returns c g f within =
    let s = c.args.side in
    let move = move_at c.args.id in
    let list = c.in_ok-damages.damages in
    let knock_outs : c.taking_all.result ≡ taking_all (member_in (other s) f).hp list =
    c.taking_all.ensures
    ∙ ap (λ (hp : ℕ). taking_all hp list) (c.hp.ensures.stands g f within ∙ ap (λ (side : Side). (member_in side f).hp) c.other.ensures) in
    let hits : c.scaled_accuracy.result ≡ scaled_in s (accuracy_byte move) f = rw c.accuracy_byte.ensures at (c.scaled_accuracy.ensures.stands g f within) in
    let criticals : c.critical_bound.result ≡ critical_bound_in s move f =
    rw (c.species.ensures.stands g f within, c.is_on-focused.ensures.stands 8 refl g f within) at c.critical_bound.ensures in
    ap Some (made-same list _ _ _ _ _ _ knock_outs hits criticals)
    ∙ calculated s move c.args.critical f (Some list) (c.in_ok-damages.ensures ∙ ap damages (c.numbers.ensures.stands g f within))
