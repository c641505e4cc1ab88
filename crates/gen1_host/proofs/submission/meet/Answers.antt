use Rattle.gen1_host.proofs.Submissions.{met, met_of, met_pixels}
use Rattle.gen1_host.proofs.submission.meet.Goals as goal

pub returns-clause-met : goal.returns-clause-met
returns-clause-met c events r = met c.args.log.now c.args.teller.now c.tell_log.new.self c.tell_log.result c.tell_log.ensures.told c.tell_log.ensures.fault events r

pub returns-clause-within : goal.returns-clause-within
returns-clause-within c side k = met_of side c.args.log.now c.args.teller.now c.tell_log.new.self c.tell_log.result c.tell_log.ensures.told c.tell_log.ensures.kept k

pub returns-clause-pixels : goal.returns-clause-pixels
returns-clause-pixels c = met_pixels c.args.log.now c.args.teller.now c.tell_log.new.self c.tell_log.result c.tell_log.ensures.told c.tell_log.ensures.kept
