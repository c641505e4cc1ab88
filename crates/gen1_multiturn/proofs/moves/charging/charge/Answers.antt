use Rattle.gen1_layout.proofs.Words.{Progress, active_in, active_ok, length, member_in, seeing, subst, sym}
use Rattle.gen1_machine.specs.declared.side.Pick.TheVariants.{Use}
use Rattle.gen1_machine.specs.declared.side.UsedMove.{UsedMove}
use Rattle.gen1_machine.specs.Charging.{charge}
use Rattle.gen1_machine.specs.Moves.{move_at}
use Rattle.gen1_machine.specs.Valid.{IsUsedMove}
use Rattle.gen1_multiturn.proofs.moves.charging.charge.Goals as goal

pub returns-clause-shown : goal.returns-clause-shown
returns-clause-shown t c g p h =
    let s = c.args.side in
    let picked = c.picked_move.ensures.stands _ p.field h.within in
    let fits = subst (λ (u : UsedMove). IsUsedMove (length (member_in s p.field).moves) u) (sym picked) (active_ok s h.within).picked_move in
    seeing (λ (q : Progress). (active_in s q.field).picked_move) (λ (u : UsedMove). charge s (Use u) (move_at c.args.id)) picked (c.charge_by.ensures.shown g p fits h)
