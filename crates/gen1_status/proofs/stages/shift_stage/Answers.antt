use Rattle.std.proofs.lemmas.Int.{to_z-of_z}
use Rattle.gen1_status.proofs.Shifting.{shift_stage-down}
use Rattle.gen1_status.proofs.stages.shift_stage.Goals as goal

pub returns-else-by-gt0-clause-shown : goal.returns-else-by-gt0-clause-shown
returns-else-by-gt0-clause-shown t c is failing g p h =
    let fits = c.ranges.by in
    let down = shift_stage-down c.args.user c.args.target c.args.stat _ c.args.by is (simp to_z-of_z at c.if-by-gt0.false) (simp to_z-of_z at c.unsigned_abs-stages.ensures.value) in
    rw down.1 (c.lower_stage.ensures.shown down.0 failing g p h)
