use Rattle.std.proofs.Common.{arith, length, sym, ◌<◌, ◌∙◌, ◌≡◌}
use Rattle.std.proofs.lemmas.Bool.Decides.{nat_tests}
use Rattle.std.proofs.lemmas.Result.{err_from_is_err_and}
use Rattle.gen1_text.specs.MemberLines.{pieces_left}
use Rattle.gen1_text.proofs.PackedLemmas.{moves_end, moves_go, moves_skip, moves_stop}
use Rattle.gen1_text.proofs.packed.with_moves.Goals as goal

pub returns-in_err-spec : goal.returns-in_err-spec
returns-in_err-spec c =
    let some : 0 < length c.in-Some.name.now = grind (arith, nat_tests) in
    let stop = moves_stop c.loop-name.spec (pieces_left c.loop-name.name-iterator) _ c.in-Some.name.now c.in-Some.ensures.steps _ some (sym c.with_move.ensures ∙ c.in_err-spec.was) in
    let p = err_from_is_err_and c.from_residual.result c.from_residual.ensures.1 in
    rw (p.1, p.2) (sym stop ∙ c.loop-name.invariant)

pub loop-name-preserved-then-not-is_empty : goal.loop-name-preserved-then-not-is_empty
loop-name-preserved-then-not-is_empty c =
    let some : 0 < length c.in-Some.name.now = grind (arith, nat_tests) in
    sym (moves_go c.loop-name.spec (pieces_left c.loop-name.name-iterator) _ c.in-Some.name.now c.in-Some.ensures.steps c.in_ok-spec.spec some (sym c.with_move.ensures ∙ c.in_ok-spec.was)) ∙ c.loop-name.invariant

pub loop-name-preserved : goal.loop-name-preserved
loop-name-preserved c =
    let none : length c.in-Some.name.now ≡ 0 = grind (arith, nat_tests) in
    sym (moves_skip c.loop-name.spec (pieces_left c.loop-name.name-iterator) _ c.in-Some.name.now c.in-Some.ensures.steps none) ∙ c.loop-name.invariant

pub returns : goal.returns
returns c = sym (moves_end c.loop-name.spec (pieces_left c.loop-name.name-iterator) c.in-None.ensures.steps.0) ∙ c.loop-name.invariant
