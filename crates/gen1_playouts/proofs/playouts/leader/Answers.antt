use Rattle.gen1_playouts.proofs.Playing.{leads}
use Rattle.gen1_playouts.proofs.playouts.leader.Goals as goal

pub returns : goal.returns
returns c s h =
    leads s.field (c.hp_left-left_one.ensures.stands s h) (c.hp_left-left_two.ensures.stands s h)
    (c.hp_unhurt-unhurt_one.ensures.stands s h) (c.hp_unhurt-unhurt_two.ensures.stands s h) c.leading.ensures
