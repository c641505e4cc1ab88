use Rattle.gen1_outcomes.proofs.Sets.{between_has}
use Rattle.gen1_outcomes.proofs.byte_set.ByteSet.rotated_right_between.Goals as goal

pub returns : goal.returns
returns c b lt =
    between_has c.args.first c.args.next c.args.self.now.words _ _ _ _ b lt c.between.ensures c.between-2.ensures c.between-3.ensures c.between-4.ensures
