use Rattle.gen1_layout.proofs.Words.{ap, quietly, refl, still, ◌∙◌}
use Rattle.gen1_machine.specs.Action.{act}
use Rattle.gen1_machine.specs.State.{is_over}
use Rattle.gen1_machine.proofs.Acts.{begin-quiet}
use Rattle.gen1_hits.proofs.Knowledge.{begun_so}
use Rattle.gen1_turn.proofs.Turns.{resumed}
use Rattle.gen1_turn.proofs.action.act.Goals as goal

pub returns-clause-shown : goal.returns-clause-shown
unfolding act
returns-clause-shown t c since g p plan begins v h =
    let a = begun_so c.args.known.now c.begun.result g c.args.side c.begun.ensures h in
    let quiet = (begin-quiet g.setting.terms plan c.args.side).led p v in
    let b = c.action_parts.ensures.shown since g _ plan begins quiet.0 quiet.1 a in
    let kept = quietly b.1.shows (c.keep_accuracy.ensures.shown _ _ _ _ refl) in
    (b.0, resumed (c.is_over.ensures ∙ ap is_over (c.outcome.ensures.stands _ _ kept.within)) (still b.1 kept))
