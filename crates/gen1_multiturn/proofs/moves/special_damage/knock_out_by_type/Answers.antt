use Rattle.gen1_layout.proofs.Words.{Action, drawn_acted, drawn_if_not, drawn_if_so, sym, true, ◌∙◌}
use Rattle.gen1_machine.specs.FixedDamage.{knock_out_by_type}
use Rattle.gen1_machine.specs.Progress.{set_missed}
use Rattle.gen1_hits.specs.Knowing.{knowing}
use Rattle.gen1_multiturn.proofs.moves.special_damage.knock_out_by_type.Goals as goal

pub returns-then-is_immune-clause-shown : goal.returns-then-is_immune-clause-shown
unfolding knock_out_by_type set_missed
returns-then-is_immune-clause-shown t c events since g p h =
    let is = rw (c.other.ensures, c.kind.ensures) at (c.is_immune.ensures.stands _ _ h.shows.within) in
    drawn_if_so _ _ _ (sym is ∙ c.if-is_immune.true) (drawn_acted (λ (x : Action). record x { missed = true }) h)

pub returns-clause-shown : goal.returns-clause-shown
unfolding knock_out_by_type
returns-clause-shown t c events since g p h =
    let is = rw (c.other.ensures, c.kind.ensures) at (c.is_immune.ensures.stands _ _ h.shows.within) in
    drawn_if_not _ _ _ (sym is ∙ c.if-is_immune.false) (c.deal_everything.ensures.shown events since (knowing c.args.known.now g) p h)
