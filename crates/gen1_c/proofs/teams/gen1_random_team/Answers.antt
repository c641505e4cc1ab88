use Rattle.std.proofs.Common.{ap, arith, ◌∙◌}
use Rattle.gen1_random.specs.Teams.{draft}
use Rattle.gen1_random.specs.declared.teams.DrawnFrom.{DrawnFrom}
use Rattle.gen1_c.proofs.Writing.{few, form-lawful, gives-err, gives-ok, random-err, random-ok}
use Rattle.gen1_c.specs.Teams.{form_of}
use Rattle.gen1_c.proofs.teams.gen1_random_team.Goals as goal

pub returns-in-Ok-clause-gives : goal.returns-in-Ok-clause-gives
returns-in-Ok-clause-gives c =
    let drawn = c.in-Ok.ensures.drawn ∙ ap (λ (from : DrawnFrom). (draft from c.args.seed c.args.count).team) c.source.ensures in
    gives-ok _ _ (random-ok c.args.seed c.args.count c.args.from_all c.in-Ok.ensures.allowed)
    (c.form_of.ensures.value ∙ ap form_of (c.as_slice.ensures.value ∙ drawn))

pub returns-in-Ok-clause-lawful : goal.returns-in-Ok-clause-lawful
returns-in-Ok-clause-lawful c zero =
    let team = c.in-Ok.ensures.team in
    rw (c.form_of.ensures.value, c.as_slice.ensures.value) (form-lawful _ (few _ team.lawful) team.members team.lawful)

pub returns-in-Err-clause-gives : goal.returns-in-Err-clause-gives
returns-in-Err-clause-gives c =
    rw c.number.ensures.value (gives-err _ (random-err c.args.seed c.args.count c.args.from_all c.in-Err.refusal c.in-Err.ensures.refused))

pub returns-in-Err-clause-lawful : goal.returns-in-Err-clause-lawful
returns-in-Err-clause-lawful c zero = absurd (omega (arith, c.number.ensures.low, zero))
