use Rattle.gen1_host.proofs.Submissions.{one_is_back, two_is_back}
use Rattle.gen1_host.proofs.submission.take_back.Goals as goal

pub returns-in-One-clause-hosts : goal.returns-in-One-clause-hosts
returns-in-One-clause-hosts c t k asked = one_is_back c.args.side c.in-One.is k asked

pub returns-in-Two-clause-hosts : goal.returns-in-Two-clause-hosts
returns-in-Two-clause-hosts c t k asked = two_is_back c.args.side c.in-Two.is k asked
