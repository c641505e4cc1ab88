use Rattle.std.proofs.Common.{ap, arith, length, ◌∙◌}
use Rattle.gen1_text.specs.MemberLines.{pieces_of_rest}
use Rattle.gen1_text.proofs.TextLemmas.{pieces_of_at, pieces_of_whole}
use Rattle.gen1_text.proofs.cuts.PiecesIterator.next.Goals as goal

pub returns-then-place-rest-clause-steps : goal.returns-then-place-rest-clause-steps
returns-then-place-rest-clause-steps c =
    ap (pieces_of_rest c.args.self.now.separator) c.in_ok-rest.was
    ∙ pieces_of_at c.args.self.now.separator c.place_of-place.result c.in_ok-rest.rest.now c.trimmed.result.now c.place_of-place.ensures.value c.if-place-rest.true c.trimmed.ensures

pub returns-then-place-rest-clause-goes : goal.returns-then-place-rest-clause-goes
returns-then-place-rest-clause-goes c =
    record { on = λ _. (tt, tt, omega (arith, ap length (returns-then-place-rest-clause-steps c))); keeps = tt; rests = λ _. tt }

pub returns-else-place-rest-clause-steps : goal.returns-else-place-rest-clause-steps
returns-else-place-rest-clause-steps c =
    ap (pieces_of_rest c.args.self.now.separator) c.in_ok-rest.was
    ∙ pieces_of_whole c.args.self.now.separator c.place_of-place.result c.in_ok-rest.rest.now c.trimmed-else-place-rest.result.now c.place_of-place.ensures.value c.if-place-rest.false c.trimmed-else-place-rest.ensures

pub returns-else-place-rest-clause-goes : goal.returns-else-place-rest-clause-goes
returns-else-place-rest-clause-goes c =
    record { on = λ _. (tt, tt, omega (arith, ap length (returns-else-place-rest-clause-steps c))); keeps = tt; rests = λ _. tt }
