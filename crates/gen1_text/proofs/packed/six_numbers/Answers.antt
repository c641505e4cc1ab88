use Rattle.std.proofs.Common.{ap, arith, length, sym, take, ◌<◌, ◌∙◌, ◌≡◌, ◌≤◌}
use Rattle.std.proofs.lemmas.Grind.{common_steps}
use Rattle.gen1_text.specs.MemberLines.{pieces_left, pieces_of}
use Rattle.gen1_text.proofs.PackedLemmas.{numbers_end, numbers_go, numbers_stop, six_numbers-other, six_numbers-six}
use Rattle.gen1_text.proofs.packed.six_numbers.Goals as goal

pub returns-then-piece_count-ne6 : goal.returns-then-piece_count-ne6
returns-then-piece_count-ne6 c = six_numbers-other c.args.most (pieces_of 44 c.args.text.now) (grind arith)

pub returns-in_err-spread : goal.returns-in_err-spread
returns-in_err-spread c =
    let six : length (pieces_of 44 c.args.text.now) ≡ 6 = grind arith in
    let stop = numbers_stop c.args.most (take c.loop-piece.place c.loop-piece.spread) (pieces_left c.loop-piece.piece-iterator) _ c.in-Some.piece.now c.in-Some.ensures.steps (sym c.number_if_any.ensures ∙ c.in_err-spread.was) in
    c.from_residual.ensures ∙ sym stop ∙ c.loop-piece.invariant.reads ∙ six_numbers-six c.args.most (pieces_of 44 c.args.text.now) six

pub loop-piece-preserved : goal.loop-piece-preserved
loop-piece-preserved c =
    let room : c.loop-piece.place < length c.loop-piece.spread = omega (arith, ap length c.in-Some.ensures.steps) in
    let go = numbers_go c.args.most c.loop-piece.place c.loop-piece.spread (pieces_left c.loop-piece.piece-iterator) _ c.in-Some.piece.now c.in_ok-spread.field-0 c.in-Some.ensures.steps (sym c.number_if_any.ensures ∙ c.in_ok-spread.was) room in
    record {
      reads = go ∙ c.loop-piece.invariant.reads;
      places = omega (arith, ap length c.in-Some.ensures.steps);
      six = grind (arith, common_steps);
    }

pub returns : goal.returns
returns c =
    let six : length (pieces_of 44 c.args.text.now) ≡ 6 = grind arith in
    let all : length c.loop-piece.spread ≤ c.loop-piece.place = omega (arith, ap length c.in-None.ensures.steps.0) in
    sym (numbers_end c.args.most c.loop-piece.place c.loop-piece.spread (pieces_left c.loop-piece.piece-iterator) c.in-None.ensures.steps.0 all)
    ∙ c.loop-piece.invariant.reads ∙ six_numbers-six c.args.most (pieces_of 44 c.args.text.now) six
