use Rattle.std.proofs.Common.{Err, Ok, refl, sym, ◌∙◌}
use Rattle.battle_commands.proofs.Serving.{or_false, is_above_0}
use Rattle.battle_commands.proofs.commands.run_and_tell.Goals as goal

pub returns-in-Ok-clause-ends : goal.returns-in-Ok-clause-ends
returns-in-Ok-clause-ends g c = record {
  end = Ok tt;
  explains = c.get_flag-explains.result;
  status_is = refl;
  serves = c.in-Ok.ensures.serves;
  ends = (refl, refl);
  asked = record { asked = c.get_flag-explains.ensures.value; unasked = c.get_flag-explains.ensures.other; none = c.get_flag-explains.ensures.none };
}

pub returns-in-Ok-clause-read : goal.returns-in-Ok-clause-read
returns-in-Ok-clause-read g c h = c.in-Ok.ensures.read refl

pub returns-in-Ok-clause-file : goal.returns-in-Ok-clause-file
returns-in-Ok-clause-file g c h = c.in-Ok.ensures.file refl

pub returns-in-Ok-clause-written : goal.returns-in-Ok-clause-written
returns-in-Ok-clause-written g c h = c.in-Ok.ensures.write ∙ or_false _

pub returns-in-Err-clause-ends : goal.returns-in-Err-clause-ends
returns-in-Err-clause-ends g c = record {
  end = Err c.in-Err.fault;
  explains = c.get_flag-explains.result;
  status_is = c.report.ensures.status;
  serves = c.in-Err.ensures.serves;
  ends = c.report.ensures.told;
  asked = record { asked = c.get_flag-explains.ensures.value; unasked = c.get_flag-explains.ensures.other; none = c.get_flag-explains.ensures.none };
}

pub returns-in-Err-clause-read : goal.returns-in-Err-clause-read
returns-in-Err-clause-read g c h = absurd (is_above_0 c.in-Err.fault (sym c.report.ensures.status ∙ h))

pub returns-in-Err-clause-file : goal.returns-in-Err-clause-file
returns-in-Err-clause-file g c h = absurd (is_above_0 c.in-Err.fault (sym c.report.ensures.status ∙ h))

pub returns-in-Err-clause-written : goal.returns-in-Err-clause-written
returns-in-Err-clause-written g c h = absurd (is_above_0 c.in-Err.fault (sym c.report.ensures.status ∙ h))

pub returns-in-Err-clause-untold : goal.returns-in-Err-clause-untold
returns-in-Err-clause-untold g c h = absurd (is_above_0 c.in-Err.fault (sym c.report.ensures.status ∙ h))
