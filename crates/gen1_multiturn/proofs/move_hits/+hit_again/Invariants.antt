use Rattle.gen1_multiturn.proofs.move_hits.+hit_again.Given as goal

abbrev pub decreases-hit_again : goal.decreases-hit_again
decreases-hit_again g l = l.left
