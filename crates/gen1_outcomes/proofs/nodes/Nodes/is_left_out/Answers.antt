use Rattle.gen1_outcomes.proofs.nodes.Nodes.is_left_out.Goals as goal

pub returns-in-Some : goal.returns-in-Some
returns-in-Some c is = (c.in-Some.chance, c.in-Some.ensures.some, c.is_below.ensures.below is)
