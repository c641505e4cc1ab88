use Rattle.gen1_outcomes.proofs.Logs.{drawn_step, next_by, steps_by}
use Rattle.gen1_outcomes.proofs.explorer.ExplorerRolls.draw_as.Goals as goal

pub returns-clause-drawn : goal.returns-clause-drawn
returns-clause-drawn g c =
    let drawn = c.draw_noted.ensures in
    next_by _ _ c.args.look c.draw_noted.result c.args.self.now _
    (drawn_step _ _ c.args.look c.draw_noted.result c.args.self.now _ drawn.logged drawn.noted drawn.same_reference drawn.drawn)

pub returns-clause-steps : goal.returns-clause-steps
returns-clause-steps g c =
    let drawn = c.draw_noted.ensures in
    steps_by _ _ _ c.args.self.now _
    (drawn_step _ _ c.args.look c.draw_noted.result c.args.self.now _ drawn.logged drawn.noted drawn.same_reference drawn.drawn)
