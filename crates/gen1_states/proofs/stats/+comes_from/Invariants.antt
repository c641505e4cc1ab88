use Rattle.gen1_states.proofs.stats.+comes_from.Given as goal

abbrev pub decreases-comes_from : goal.decreases-comes_from
decreases-comes_from l = l.most
