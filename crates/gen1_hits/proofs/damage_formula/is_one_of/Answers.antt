use Rattle.std.proofs.Common.{sym, ◌∙◌}
use Rattle.gen1_tables.proofs.Named.{same-is}
use Rattle.gen1_hits.proofs.damage_formula.is_one_of.Goals as goal

pub returns-else-eq : goal.returns-else-eq
returns-else-eq c =
    let first = sym (same-is c.args.kind _) ∙ sym c.eq.ensures ∙ c.if-eq.false in
    rw first (c.eq-else-eq.ensures ∙ same-is c.args.kind _)
