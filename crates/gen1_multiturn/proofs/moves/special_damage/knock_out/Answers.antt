use Rattle.gen1_layout.proofs.Words.{Action, drawn_acted, drawn_goes, drawn_if_not, drawn_if_so, put_damage, still, sym, true, ◌∙◌}
use Rattle.gen1_machine.specs.FixedDamage.{knock_out}
use Rattle.gen1_machine.specs.Progress.{set_missed}
use Rattle.gen1_hits.specs.Knowing.{knowing}
use Rattle.gen1_rolls.specs.Draws.{by_then}
use Rattle.gen1_multiturn.proofs.moves.special_damage.knock_out.Goals as goal

pub returns-then-is_slower-clause-shown : goal.returns-then-is_slower-clause-shown
unfolding knock_out set_missed
returns-then-is_slower-clause-shown t c events since g p h =
    let start = knowing c.args.known.now g in
    let a = still {g' = start} h (put_damage h.shows 0 (c.put_last_damage.ensures.stands _ _ h.shows.within)) in
    let b = c.critical-known.ensures.shown events since start _ a in
    let slow = sym (c.is_slower.ensures.stands _ _ b.shows.within) ∙ c.if-is_slower.true in
    drawn_goes _ _ a (drawn_goes _ _ b (drawn_if_so _ _ _ slow (drawn_acted (λ (x : Action). record x { missed = true }) b)))

pub returns-clause-shown : goal.returns-clause-shown
unfolding knock_out
returns-clause-shown t c events since g p h =
    let start = knowing c.args.known.now g in
    let a = still {g' = start} h (put_damage h.shows 0 (c.put_last_damage.ensures.stands _ _ h.shows.within)) in
    let b = c.critical-known.ensures.shown events (by_then c.knock_out_by_type.ensures.steps (by_then c.hit_or_miss.ensures.steps since)) start _ a in
    let fast = sym (c.is_slower.ensures.stands _ _ b.shows.within) ∙ c.if-is_slower.false in
    let d = c.knock_out_by_type.ensures.shown events (by_then c.hit_or_miss.ensures.steps since) g _ b in
    drawn_goes _ _ a (drawn_goes _ _ b (drawn_if_not _ _ _ fast (drawn_goes _ _ d (c.hit_or_miss.ensures.shown events since g _ d))))
