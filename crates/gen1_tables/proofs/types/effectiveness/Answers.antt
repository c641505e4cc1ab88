use Rattle.std.proofs.Common.{refl, ◌∙◌}
use Rattle.gen1_tables.proofs.Factors.{agree}
use Rattle.gen1_tables.proofs.types.effectiveness.Goals as goal

pub returns-clause-tenths : goal.returns-clause-tenths
returns-clause-tenths c = c.in_tenths.ensures ∙ (agree _ c.args.kind c.args.first c.args.second (c.from.ensures ∙ c.number.ensures.value) (c.from-2.ensures ∙ c.number-2.ensures.value) (c.from-3.ensures ∙ c.number-3.ensures.value)).0

pub returns-clause-all : goal.returns-clause-all
returns-clause-all c = (agree 0 c.args.kind c.args.first c.args.second refl refl refl).1

pub returns-clause-first_small : goal.returns-clause-first_small
returns-clause-first_small c =
    rw c.in_tenths.ensures
    (agree _ c.args.kind c.args.first c.args.second (c.from.ensures ∙ c.number.ensures.value) (c.from-2.ensures ∙ c.number-2.ensures.value) (c.from-3.ensures ∙ c.number-3.ensures.value)).2

pub returns-clause-second_small : goal.returns-clause-second_small
returns-clause-second_small c =
    rw c.in_tenths.ensures
    (agree _ c.args.kind c.args.first c.args.second (c.from.ensures ∙ c.number.ensures.value) (c.from-2.ensures ∙ c.number-2.ensures.value) (c.from-3.ensures ∙ c.number-3.ensures.value)).3
