use Rattle.std.proofs.Common.{sym}
use Rattle.gen1_machine.specs.Moves.{move_at}
use Rattle.gen1_multiturn.proofs.moves.going_on.thrash_knowing.Goals as goal

pub returns-clause-shown : goal.returns-clause-shown
returns-clause-shown t c since g p plan doing v h =
    c.thrash_with.ensures.shown (move_at c.args.id) _ (sym c.accuracy_byte.ensures) c.requires.tie since g p plan doing v h
