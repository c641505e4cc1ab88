use Rattle.gen1_layout.proofs.Words.{Action, Option, ap, drawn_if_not, drawn_if_so, drawn_quietly, drawn_seeing, sym, ℕ, ◌∙◌}
use Rattle.gen1_machine.specs.GoingOn.{thrash_about, thrash_less}
use Rattle.gen1_hits.specs.Knowing.{knowing}
use Rattle.gen1_multiturn.proofs.Underways.{alone-thrashing}
use Rattle.gen1_multiturn.proofs.moves.going_on.thrash_with.Goals as goal

pub returns-then-known-clause-shown : goal.returns-then-known-clause-shown
unfolding thrash_about
returns-then-known-clause-shown t c move effect is tie since g p plan doing v h =
    let left = c.thrash.ensures.stands _ _ h.shows.within in
    drawn_if_so _ _ _ (ap (λ (a : Action). a.going_on) h.shows.action ∙ c.if-known.true)
    (drawn_seeing _ (λ (o : Option ℕ). thrash_less c.args.side o) left (c.thrash_on.ensures.shown since (knowing c.args.known.now g) p (sym left) h))

pub returns-clause-shown : goal.returns-clause-shown
unfolding thrash_about
returns-clause-shown t c move effect is tie since g p plan doing v h =
    let alone = alone-thrashing g.setting.terms plan c.args.side effect p doing tie v in
    drawn_if_not _ _ _ (ap (λ (a : Action). a.going_on) h.shows.action ∙ c.if-known.false)
    (drawn_quietly h (c.begin_thrashing.ensures.shown _ move is since (knowing c.args.known.now g) p alone.0 alone.1))
