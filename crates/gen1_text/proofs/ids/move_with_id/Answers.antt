use Rattle.std.proofs.Common.{Some, ap, arith, sym, ◌∙◌}
use Rattle.gen1_tables.specs.Names.{move_name}
use Rattle.gen1_text.proofs.TextLemmas.{name_tested, numbered, move_found, move_missing, move_more}
use Rattle.gen1_text.proofs.ids.move_with_id.Goals as goal

pub returns-then-has_same_id : goal.returns-then-has_same_id
returns-then-has_same_id c =
    let text = c.args.text.now in
    let n = c.loop-number.number in
    let same = numbered 165 n c.in_ok-id.id c.new.result c.new.ensures c.in_ok-id.was in
    let here = name_tested move_name text c.as_bytes.result.now _ n c.has_same_id.result same (c.as_bytes.ensures.value ∙ c.name.ensures) c.has_same_id.ensures in
    ap Some same ∙ sym (move_found text n c.loop-number.auto.number (omega arith) c.loop-number.invariant (here ∙ c.if-has_same_id.true))

pub loop-number-preserved : goal.loop-number-preserved
loop-number-preserved c =
    let text = c.args.text.now in
    let n = c.loop-number.number in
    let same = numbered 165 n c.in_ok-id.id c.new.result c.new.ensures c.in_ok-id.was in
    let here = name_tested move_name text c.as_bytes.result.now _ n c.has_same_id.result same (c.as_bytes.ensures.value ∙ c.name.ensures) c.has_same_id.ensures in
    move_more text n c.loop-number.auto.number c.loop-number.invariant (here ∙ c.if-has_same_id.false)

pub returns : goal.returns
returns c = sym (move_missing c.args.text.now c.loop-number.number (omega arith) c.loop-number.invariant)
