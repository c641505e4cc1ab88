use Rattle.gen1_machine.specs.Moves.{move_at}
use Rattle.gen1_hits.proofs.Planning.{before-valid, used-fits}
use Rattle.gen1_multiturn.proofs.moves.charging.charge_knowing.Goals as goal

pub returns-clause-shown : goal.returns-clause-shown
returns-clause-shown t c g p plan taking v h =
    let fits = used-fits g.setting.terms plan c.args.side c.args.pick (move_at c.args.id).effect _ _ _ taking (before-valid c.args.pick p v) in
    c.charge_by.ensures.shown _ _ fits h
