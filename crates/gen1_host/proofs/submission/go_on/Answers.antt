use Rattle.gen1_host.proofs.Submissions.{goes_further, goes_same}
use Rattle.gen1_host.proofs.submission.go_on.Goals as goal

pub returns-then-next-host-clause-hosts : goal.returns-then-next-host-clause-hosts
returns-then-next-host-clause-hosts c t course k is short = goes_same course c.args.next k is short c.if-next-host.true

pub returns-clause-hosts : goal.returns-clause-hosts
returns-clause-hosts c t course k is short = goes_further course c.args.next k is short c.if-next-host.false (c.meet_last.ensures.hosts t k)
