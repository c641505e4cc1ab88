use Rattle.std.proofs.Common.{arith, sym, ◌∙◌}
use Rattle.std.proofs.lemmas.Grind.{common_steps}
use Rattle.gen1_text.specs.MemberLines.{pieces_left}
use Rattle.gen1_text.proofs.TextLemmas.{parts_go, parts_stop}
use Rattle.gen1_text.proofs.spread.spread_in.Goals as goal

pub returns-in_err-stat : goal.returns-in_err-stat
returns-in_err-stat c =
    let stop = parts_stop c.args.most c.loop-part.spread (pieces_left c.loop-part.part-iterator) _ c.in-Some.part.now c.in-Some.ensures.steps (sym c.part_in.ensures.value ∙ c.in_err-stat.was) in
    c.from_residual.ensures ∙ sym stop ∙ c.loop-part.invariant.0

pub loop-part-preserved : goal.loop-part-preserved
loop-part-preserved c =
    let go = parts_go c.args.most c.loop-part.spread (pieces_left c.loop-part.part-iterator) _ c.in-Some.part.now (c.in_ok-stat.stat, c.in_ok-stat.number) c.in-Some.ensures.steps (sym c.part_in.ensures.value ∙ c.in_ok-stat.was) in
    (sym go ∙ c.loop-part.invariant.0, grind (arith, common_steps))
