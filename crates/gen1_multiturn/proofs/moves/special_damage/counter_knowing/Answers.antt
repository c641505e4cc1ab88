use Rattle.gen1_layout.proofs.Words.{Action, drawn_acted, drawn_goes, drawn_if_not, drawn_if_so, drawn_seeing, put_damage, refl, still, sym, true, ◌∙◌}
use Rattle.gen1_machine.specs.Counter.{counter, counter_by}
use Rattle.gen1_machine.specs.Moves.{move_at}
use Rattle.gen1_machine.specs.Progress.{last_damage, set_missed}
use Rattle.gen1_hits.specs.Knowing.{knowing}
use Rattle.gen1_multiturn.proofs.MoveHits.{dealt-if, missed-if}
use Rattle.gen1_rolls.specs.Draws.{by_then}
use Rattle.gen1_multiturn.proofs.moves.special_damage.counter_knowing.Goals as goal

pub returns-in_default-clause-shown : goal.returns-in_default-clause-shown
unfolding counter set_missed
returns-in_default-clause-shown t c events since g p h =
    let a = c.critical-known.ensures.shown events since (knowing c.args.known.now g) p h in
    let no = missed-if _ _ (sym (c.counter.ensures.stands _ _ a.shows.within) ∙ c.in_default.is) in
    drawn_goes _ _ a (drawn_if_not _ _ _ no (drawn_acted (λ (x : Action). record x { missed = true }) a))

pub returns-clause-shown : goal.returns-clause-shown
unfolding counter counter_by
returns-clause-shown t c events since g p h =
    let a = c.critical-known.ensures.shown events (by_then c.hit_or_miss.ensures.steps since) (knowing c.args.known.now g) p h in
    let k = record c.args.known.now { critical = c.critical-known.result } in
    let damage = c.in-Some.damage in
    let dealt = dealt-if _ _ damage (sym (c.counter.ensures.stands _ _ a.shows.within) ∙ c.in-Some.is) in
    let b = still {g' = knowing k g} a (put_damage a.shows damage (c.put_last_damage.ensures.stands _ _ a.shows.within)) in
    drawn_goes _ _ a (drawn_if_so _ _ _ dealt.0 (drawn_seeing last_damage (counter_by c.args.side (move_at c.args.id)) refl
    (rw dealt.1 (drawn_goes _ _ b (c.hit_or_miss.ensures.shown events since g _ b)))))
