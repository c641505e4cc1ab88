use Rattle.std.proofs.Common.{arith, refl}
use Rattle.gen1_outcomes.proofs.Lists.{joins}
use Rattle.gen1_outcomes.proofs.middles.Middles.join.Goals as goal

pub returns-clause-joined : goal.returns-clause-joined
returns-clause-joined c =
    joins c.args.middle.now _ c.get.new.self c.args.self.now _ c.args.place _ refl refl (omega arith) (omega arith) refl c.requires.alike c.in_ok-get.ensures.gets
