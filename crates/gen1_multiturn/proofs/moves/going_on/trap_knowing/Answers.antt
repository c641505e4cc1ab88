use Rattle.gen1_layout.proofs.Words.{Action, ap, drawn_if_not, drawn_if_so, ◌∙◌}
use Rattle.gen1_machine.specs.GoingOn.{trap}
use Rattle.gen1_hits.proofs.Knowledge.{plain_still}
use Rattle.gen1_hits.proofs.Planning.{alone-trapping}
use Rattle.gen1_hits.specs.Knowing.{knowing}
use Rattle.gen1_multiturn.proofs.moves.going_on.trap_knowing.Goals as goal

pub returns-then-known-clause-shown : goal.returns-then-known-clause-shown
unfolding trap
returns-then-known-clause-shown t c events effect tie since g p plan doing v h =
    drawn_if_so _ _ _ (ap (λ (a : Action). a.going_on) h.shows.action ∙ c.if-known.true) (plain_still c.args.known.now g _ (c.trap_one_turn_less.ensures.shown events) h)

pub returns-clause-shown : goal.returns-clause-shown
unfolding trap
returns-clause-shown t c events effect tie since g p plan doing v h =
    let alone = alone-trapping g.setting.terms plan c.args.side effect p doing tie v in
    drawn_if_not _ _ _ (ap (λ (a : Action). a.going_on) h.shows.action ∙ c.if-known.false)
    (c.begin_trapping.ensures.shown events since (knowing c.args.known.now g) p alone.0 alone.1 h)
