use Rattle.gen1_hits.proofs.Knowledge.{leaves}
use Rattle.gen1_effects.proofs.side_effects.side_effect.Goals as goal

pub returns-clause-shown : goal.returns-clause-shown
returns-clause-shown t c since g p h =
    leaves g (c.side_effect_knowing.ensures.shown since g p (rw (c.begun-known.ensures, c.new.ensures) h))
