use Rattle.gen1_machine.specs.Charging.{make_current}
use Rattle.gen1_turn.proofs.Turns.{still_current}
use Rattle.gen1_turn.proofs.action.lead_up.take_up.Goals as goal

pub returns-in-Continue : goal.returns-in-Continue
unfolding make_current
returns-in-Continue c = record { shown = λ told g p fits h. rw (c.in-Continue.is) (still_current c.args.side p h) }

pub returns-in-Idle : goal.returns-in-Idle
unfolding make_current
returns-in-Idle c = record { shown = λ told g p fits h. rw (c.in-Idle.is) (still_current c.args.side p h) }

pub returns-in-Held : goal.returns-in-Held
unfolding make_current
returns-in-Held c = record { shown = λ told g p fits h. rw (c.in-Held.is) (still_current c.args.side p h) }
