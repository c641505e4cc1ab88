use Rattle.gen1_layout.proofs.Words.{as_list, drawn_as_list, drawn_from_list, quietly, still, then-goes, ◌∙◌}
use Rattle.gen1_machine.specs.declared.side.Side.TheVariants.{One, Two}
use Rattle.gen1_machine.specs.Ruling.{ruling_of}
use Rattle.gen1_machine.specs.Turn.{both_act, both_pick, do_parts, set_picked}
use Rattle.gen1_machine.proofs.ValidSteps.{set_picked-keeps}
use Rattle.gen1_hits.specs.Knowing.{knowing, with_broke}
use Rattle.gen1_turn.proofs.Turns.{cut_as, picked-fits, ranked}
use Rattle.gen1_rolls.specs.Draws.{by_then}
use Rattle.gen1_turn.proofs.turn_update.choices.both_pick.Goals as goal

pub returns-in-One-clause-shown : goal.returns-in-One-clause-shown
unfolding both_pick
returns-in-One-clause-shown t c since g p plan (one, two) v h =
    let terms = g.setting.terms in
    let fits_one = picked-fits terms plan One c.args.one p one v in
    let a = still {g' = knowing (with_broke h.0 c.args.known.now) g} h.1 (quietly h.1.shows (c.settle_pick-first.ensures.shown _ _ _ fits_one)) in
    let va = (set_picked-keeps terms plan One c.args.one one).kept p v in
    let fits_two = picked-fits terms plan Two c.args.two (set_picked One c.args.one p) two va in
    let b = still {g' = knowing (with_broke h.0 c.args.known.now) g} a (quietly a.shows (c.settle_pick-second.ensures.shown _ _ _ fits_two)) in
    let vb = (set_picked-keeps terms plan Two c.args.two two).kept _ va in
    let first = c.settle_pick-first.ensures.ranks _ _ p fits_one (as_list h.1.shows) in
    let second = c.settle_pick-second.ensures.ranks _ _ (set_picked One c.args.one p) fits_two (as_list a.shows) in
    let d = rw c.in-One.is at (c.side_by_ranks.ensures.shown (by_then c.both_act.ensures.steps since) _ _ _ (drawn_as_list b)) in
    let q = c.both_act.ensures.shown since g _ plan (one, two) vb (h.0, drawn_from_list b d.1) in
    cut_as c.both_act.new.known g _ _
    (then-goes (set_picked One c.args.one) _ p a.shows.ends ∙ then-goes (set_picked Two c.args.two) _ _ b.shows.ends
    ∙ ranked (λ s. do_parts (ruling_of terms) (both_act c.args.one c.args.two s)) _ _ c.args.one c.args.two p _ first second
    (d.2 (λ s. do_parts (ruling_of terms) (both_act c.args.one c.args.two s)))) q

pub returns-in-Two-clause-shown : goal.returns-in-Two-clause-shown
unfolding both_pick
returns-in-Two-clause-shown t c since g p plan (one, two) v h =
    let terms = g.setting.terms in
    let fits_one = picked-fits terms plan One c.args.one p one v in
    let a = still {g' = knowing (with_broke h.0 c.args.known.now) g} h.1 (quietly h.1.shows (c.settle_pick-first.ensures.shown _ _ _ fits_one)) in
    let va = (set_picked-keeps terms plan One c.args.one one).kept p v in
    let fits_two = picked-fits terms plan Two c.args.two (set_picked One c.args.one p) two va in
    let b = still {g' = knowing (with_broke h.0 c.args.known.now) g} a (quietly a.shows (c.settle_pick-second.ensures.shown _ _ _ fits_two)) in
    let vb = (set_picked-keeps terms plan Two c.args.two two).kept _ va in
    let first = c.settle_pick-first.ensures.ranks _ _ p fits_one (as_list h.1.shows) in
    let second = c.settle_pick-second.ensures.ranks _ _ (set_picked One c.args.one p) fits_two (as_list a.shows) in
    let d = rw c.in-Two.is at (c.side_by_ranks.ensures.shown (by_then c.both_act-in-Two.ensures.steps since) _ _ _ (drawn_as_list b)) in
    let q = c.both_act-in-Two.ensures.shown since g _ plan (two, one) vb (h.0, drawn_from_list b d.1) in
    cut_as c.both_act-in-Two.new.known g _ _
    (then-goes (set_picked One c.args.one) _ p a.shows.ends ∙ then-goes (set_picked Two c.args.two) _ _ b.shows.ends
    ∙ ranked (λ s. do_parts (ruling_of terms) (both_act c.args.one c.args.two s)) _ _ c.args.one c.args.two p _ first second
    (d.2 (λ s. do_parts (ruling_of terms) (both_act c.args.one c.args.two s)))) q
