use Rattle.gen1_machine.specs.Landing.{land}
use Rattle.gen1_machine.specs.Progress.{choose, given}
use Rattle.gen1_hits.specs.Knowing.{knowing}
use Rattle.gen1_multiturn.proofs.move_hits.land_hit.Goals as goal

pub returns-clause-shown : goal.returns-clause-shown
unfolding land given choose
returns-clause-shown t c g p h =
    let damage = c.last_damage-damage.ensures.stands _ _ h.within in
    let a = c.land-landed.ensures.shown (knowing c.args.known.now g) p h in
    rw c.has_broken-broke.ensures (rw damage at a)
