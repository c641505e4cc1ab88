use Rattle.std.proofs.Common.{sym, ◌∙◌}
use Rattle.gen1_room.specs.Rooms.{submission_of}
use Rattle.gen1_host.specs.Table.{Submit}
use Rattle.gen1_host.proofs.Tables.{takes_in_turn, takes_over}
use Rattle.gen1_host.proofs.submission.submit.Goals as goal

pub returns-then-is_closed-clause-takes : goal.returns-then-is_closed-clause-takes
returns-then-is_closed-clause-takes c t k =
    takes_over (Submit c.args.numbers.now (submission_of c.args.side c.args.number c.args.byte)) k (sym (c.is_closed.ensures t k) ∙ c.if-is_closed.true)

pub returns-clause-takes : goal.returns-clause-takes
returns-clause-takes c t k =
    takes_in_turn (Submit c.args.numbers.now (submission_of c.args.side c.args.number c.args.byte)) (sym (c.is_closed.ensures t k) ∙ c.if-is_closed.false)
    (c.submit_now.ensures.follows t k)
