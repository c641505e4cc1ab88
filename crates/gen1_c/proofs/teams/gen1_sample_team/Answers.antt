use Rattle.std.proofs.Common.{ap, sym, ◌∙◌}
use Rattle.gen1_c.proofs.Writing.{few, form-lawful, gives-err, gives-ok, sample-err, sample-ok}
use Rattle.gen1_c.specs.Teams.{form_of}
use Rattle.gen1_c.proofs.teams.gen1_sample_team.Goals as goal

pub returns-in-Some-clause-gives : goal.returns-in-Some-clause-gives
returns-in-Some-clause-gives c =
    gives-ok _ _ (sample-ok c.args.number (sym c.in-Some.ensures.some))
    (c.form_of.ensures.value ∙ ap form_of (c.as_slice.ensures.value ∙ c.in-Some.ensures.value))

pub returns-in-Some-clause-lawful : goal.returns-in-Some-clause-lawful
returns-in-Some-clause-lawful c zero =
    rw (c.form_of.ensures.value, c.as_slice.ensures.value)
    (form-lawful _ (few _ c.in-Some.ensures.lawful) c.in-Some.ensures.members c.in-Some.ensures.lawful)

pub returns-in-None-clause-gives : goal.returns-in-None-clause-gives
returns-in-None-clause-gives c = gives-err _ (sample-err c.args.number (sym c.in-None.ensures.some))
