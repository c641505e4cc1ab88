use Rattle.gen1_layout.proofs.Words.{goes}
use Rattle.gen1_machine.specs.SwitchingIn.{replace}
use Rattle.gen1_switching.proofs.Stepped.{comes-after}
use Rattle.gen1_switching.proofs.switching_in.send_both_chosen.Goals as goal

pub returns-clause-shown : goal.returns-clause-shown
unfolding replace
returns-clause-shown t c g p one two h =
    let a = c.send_if_chosen.ensures.shown g p one h in
    goes _ _ a (c.send_if_chosen-2.ensures.shown g _ (comes-after c.args.one c.args.two p two) a)
