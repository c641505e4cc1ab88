use Rattle.std.proofs.Common.{ap, arith, sym, ◌+◌, ◌∙◌, ◌≡◌}
use Rattle.std.specs.Prelude.{false, is_ok}
use Rattle.std.proofs.lemmas.Bool.{false≢true}
use Rattle.gen1_machine.specs.declared.side.Side.TheVariants.{One, Two}
use Rattle.gen1_machine.specs.Laws.{accepted_in}
use Rattle.gen1_machine.specs.State.{is_over}
use Rattle.gen1_machine.specs.Step.{run}
use Rattle.gen1_machine.proofs.RunsEnd.{runs_end}
use Rattle.gen1_engine.specs.declared.result.BattleResult.{BattleResult}
use Rattle.gen1_engine.proofs.Making.{accepts-none}
use Rattle.uses.proofs.Examples.{accepts-more, accepts-offered, picked}
use Rattle.uses.proofs.player.play_at_random.Goals as goal

pub updates-init : goal.updates-init
updates-init g c s h = accepts-none s h

pub returns-then-is_over-clause-ended : goal.returns-then-is_over-clause-ended
returns-then-is_over-clause-ended g c s h =
    let so_far = c.updates.invariant s h in
    let tells = c.result-now.ensures.stands (run s so_far.pairs).state so_far.stands in
    record {
      pairs = so_far.pairs;
      stands = so_far.stands;
      tells = tells;
      over = ap (λ (r : BattleResult). is_over r.outcome) (sym tells) ∙ sym c.is_over.ensures ∙ c.if-is_over.true;
    }

-- the picked choice was offered
pub returns-in_err-update_events : goal.returns-in_err-update_events
returns-in_err-update_events g c =
    let some = c.result-now.ensures.valid in
    let s = some.state in
    let going : is_over s.field.outcome ≡ false =
    ap (λ (r : BattleResult). is_over r.outcome) (sym (c.result-now.ensures.stands s some.stands)) ∙ sym c.is_over.ensures ∙ c.if-is_over.false in
    let one = picked One s _ _ some.stands.valid going (c.choices.ensures s some.stands) c.pick-one.ensures in
    let two = picked Two s _ _ some.stands.valid going (c.choices-in-updates.ensures s some.stands) c.pick-two.ensures in
    let ok = accepts-offered s c.pick-one.result c.pick-two.result _ _ c.update_events.result one two (c.update_events.ensures.answers s some.stands) in
    absurd (false≢true (sym (ap is_ok c.in_err-update_events.was) ∙ ok))

pub updates-preserved : goal.updates-preserved
updates-preserved g c s h =
    let so_far = c.updates.invariant s h in
    accepts-more _ c.pick-one.result c.pick-two.result c.update_events.result so_far (ap is_ok c.in_ok-update_events.was)
    (c.update_events.ensures.answers (run s so_far.pairs).state so_far.stands)

pub returns-clause-ended : goal.returns-clause-ended
returns-clause-ended g c s h =
    let all = c.updates.invariant s h in
    let most : accepted_in s all.pairs ≡ s.terms.limit + 11 =
    omega (arith, all.counted, c.limit.ensures s h, c.from-end.ensures, c.updates-test.false, c.updates.auto.counter-end) in
    record { pairs = all.pairs; stands = all.stands; tells = c.result.ensures.stands (run s all.pairs).state all.stands; over = (runs_end s all.pairs h.valid).1 most }
