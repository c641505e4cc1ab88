use Rattle.gen1_outcomes.proofs.Logs.{byte_by}
use Rattle.gen1_outcomes.proofs.explorer.ExplorerRolls.draw.Goals as goal

pub returns-clause-drawn : goal.returns-clause-drawn
returns-clause-drawn g c since n at = byte_by _ _ c.draw_as.result c.args.self.now c.draw_as.new.self c.draw_as.type_inv since n (c.draw_as.ensures.drawn since n at)
