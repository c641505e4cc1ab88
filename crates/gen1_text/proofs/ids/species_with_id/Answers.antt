use Rattle.std.proofs.Common.{Some, ap, arith, sym, ◌∙◌}
use Rattle.gen1_tables.specs.Names.{species_name}
use Rattle.gen1_text.proofs.TextLemmas.{name_tested, numbered, species_found, species_missing, species_more}
use Rattle.gen1_text.proofs.ids.species_with_id.Goals as goal

pub returns-then-has_same_id : goal.returns-then-has_same_id
returns-then-has_same_id c =
    let text = c.args.text.now in
    let n = c.loop-number.number in
    let same = numbered 151 n c.in_ok-species.species c.new.result c.new.ensures c.in_ok-species.was in
    let here = name_tested species_name text c.as_bytes.result.now _ n c.has_same_id.result same (c.as_bytes.ensures.value ∙ c.name.ensures) c.has_same_id.ensures in
    ap Some same ∙ sym (species_found text n c.loop-number.auto.number (omega arith) c.loop-number.invariant (here ∙ c.if-has_same_id.true))

pub loop-number-preserved : goal.loop-number-preserved
loop-number-preserved c =
    let text = c.args.text.now in
    let n = c.loop-number.number in
    let same = numbered 151 n c.in_ok-species.species c.new.result c.new.ensures c.in_ok-species.was in
    let here = name_tested species_name text c.as_bytes.result.now _ n c.has_same_id.result same (c.as_bytes.ensures.value ∙ c.name.ensures) c.has_same_id.ensures in
    species_more text n c.loop-number.auto.number c.loop-number.invariant (here ∙ c.if-has_same_id.false)

pub returns : goal.returns
returns c = sym (species_missing c.args.text.now c.loop-number.number (omega arith) c.loop-number.invariant)
