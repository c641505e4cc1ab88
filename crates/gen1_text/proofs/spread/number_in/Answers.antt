use Rattle.std.proofs.Common.{arith, sym, ◌∙◌}
use Rattle.std.proofs.lemmas.Bool.Decides.{nat_tests}
use Rattle.gen1_text.proofs.TextLemmas.{number_of-empty, number_on-digit_at, number_on-end_at, number_on-large, number_on-other_at, number_on-start}
use Rattle.gen1_text.proofs.spread.number_in.Goals as goal

pub returns-then-is_empty : goal.returns-then-is_empty
returns-then-is_empty c = number_of-empty c.args.most c.args.text.now (grind (arith, nat_tests))

pub returns-then-not-is_ascii_digit : goal.returns-then-not-is_ascii_digit
returns-then-not-is_ascii_digit c =
    let text = c.args.text.now in
    sym (number_on-other_at c.args.most c.loop-digit.number c.loop-digit.digit-index text c.loop-digit-test.true (sym c.is_ascii_digit.ensures.value ∙ c.if-not-is_ascii_digit.true))
    ∙ c.loop-digit.invariant.0 ∙ number_on-start c.args.most text (grind (arith, nat_tests))

pub returns-then-number-most : goal.returns-then-number-most
returns-then-number-most c =
    let text = c.args.text.now in
    let digit = number_on-digit_at c.args.most c.loop-digit.number c.loop-digit.digit-index text c.loop-digit-test.true (sym c.is_ascii_digit.ensures.value ∙ c.if-not-is_ascii_digit.false) in
    sym (digit ∙ number_on-large c.args.most _ _ (omega arith)) ∙ c.loop-digit.invariant.0 ∙ number_on-start c.args.most text (grind (arith, nat_tests))

pub loop-digit-preserved : goal.loop-digit-preserved
loop-digit-preserved c =
    let text = c.args.text.now in
    let digit = number_on-digit_at c.args.most c.loop-digit.number c.loop-digit.digit-index text c.loop-digit-test.true (sym c.is_ascii_digit.ensures.value ∙ c.if-not-is_ascii_digit.false) in
    (grind (arith, digit), omega arith)

pub returns : goal.returns
returns c =
    sym (number_on-end_at c.args.most c.loop-digit.number c.loop-digit.digit-index c.args.text.now c.loop-digit-test.false c.loop-digit.invariant.1)
    ∙ c.loop-digit.invariant.0 ∙ number_on-start c.args.most c.args.text.now (grind (arith, nat_tests))
