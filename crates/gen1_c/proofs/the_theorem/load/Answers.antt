use Rattle.gen1_c.proofs.TheTheorem.{loaded_same}
use Rattle.gen1_c.proofs.the_theorem.load.Goals as goal

pub returns : goal.returns
returns c s h is full =
    loaded_same s c.args.stored.now c.args.battle.now c.gen1_load.new.battle c.gen1_load.result h is full c.gen1_load.ensures.tests c.gen1_load.ensures.battle
