use Rattle.gen1_machine.specs.CurrentStats.{recomputed_at, with_penalty_of}
use Rattle.gen1_machine.specs.StageShift.{shift_to, take_penalty_again}
use Rattle.gen1_layout.proofs.Chain.{goes, put_on_active, seeing}
use Rattle.gen1_status.proofs.stages.shift_to.Goals as goal

pub returns : goal.returns
unfolding shift_to take_penalty_again
returns c events ok g p h =
    let a = put_on_active h c.args.target (recomputed_at c.args.stat c.args.stage) (c.recompute.ensures.stands _ _ h.within ok) in
    goes _ _ a
    (rw (← c.other-foe.ensures) (seeing _ _ (c.status-status.ensures.stands _ _ a.within) (put_on_active a c.other-foe.result (with_penalty_of c.status-status.result) (c.take_penalty.ensures.stands _ _ a.within))))
