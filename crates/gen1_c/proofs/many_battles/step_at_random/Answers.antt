use Rattle.std.proofs.Common.{[], ap, inl, inr, refl, sym, ◌∙◌, ◌≡◌}
use Rattle.std.specs.Prelude.{false, true}
use Rattle.gen1_machine.specs.declared.side.Side.TheVariants.{One, Two}
use Rattle.gen1_machine.specs.State.{is_over}
use Rattle.gen1_engine.specs.declared.result.BattleResult.{BattleResult}
use Rattle.gen1_engine.specs.Update.{AreOffered}
use Rattle.gen1_playouts.specs.Playouts.{IsZeros}
use Rattle.gen1_playouts.proofs.Playing.{drawn-alike, drawn-offered, offers-drawn}
use Rattle.gen1_c.proofs.Updates.{stepped-on, stepped-over}
use Rattle.gen1_c.proofs.many_battles.step_at_random.Goals as goal

pub returns-then-is_over-clause-steps : goal.returns-then-is_over-clause-steps
returns-then-is_over-clause-steps c s h =
    let over : is_over s.field.outcome ≡ true = ap (λ (r : BattleResult). is_over r.outcome) (sym (c.result.ensures s h)) ∙ sym c.is_over.ensures ∙ c.if-is_over.true in
    stepped-over s c.args.random.now.state h over (c.gen1_result.ensures.stands s h)

-- what was drawn is offered
pub returns-clause-steps : goal.returns-clause-steps
returns-clause-steps c s h =
    let going : is_over s.field.outcome ≡ false = ap (λ (r : BattleResult). is_over r.outcome) (sym (c.result.ensures s h)) ∙ sym c.is_over.ensures ∙ c.if-is_over.false in
    let none : IsZeros [] = λ number. refl in
    let is_one = c.offered_mask.ensures.stands s h in
    let is_two = c.offered_mask-2.ensures.stands s h in
    let first = drawn-alike One s [] c.offered_mask.result c.args.random.now.state h.valid going is_one (inl none) c.pick-one.ensures.drawn in
    let second = drawn-alike Two s [] c.offered_mask-2.result c.pick-one.new.random.state h.valid going is_two (inl none) c.pick-two.ensures.drawn in
    let asked : AreOffered s c.pick-one.result c.pick-two.result =
    record { first = offers-drawn One s [] _ h.valid going first; second = offers-drawn Two s [] _ h.valid going second } in
    rw (c.byte_of-first.ensures.value, c.byte_of-second.ensures.value)
    (stepped-on s c.args.random.now.state h going first second
    (drawn-offered One s c.offered_mask.result c.args.random.now.state h.valid going is_one c.pick-one.ensures.drawn)
    (drawn-offered Two s c.offered_mask-2.result c.pick-one.new.random.state h.valid going is_two c.pick-two.ensures.drawn)
    (c.update_offered.ensures.steps s h asked) c.gen1_result-2.ensures.stands)

pub returns-then-is_over-clause-listed : goal.returns-then-is_over-clause-listed
returns-then-is_over-clause-listed c = record { one = refl; two = refl; result = c.gen1_result.ensures.listed; code = inr refl }

pub returns-clause-listed : goal.returns-clause-listed
returns-clause-listed c = record {
  one = rw c.byte_of-first.ensures.undone refl;
  two = rw c.byte_of-second.ensures.undone refl;
  result = c.gen1_result-2.ensures.listed;
  code = inl refl;
}
