use Rattle.gen1_layout.proofs.Words.{drawn_goes, drawn_if_not, drawn_if_so, drawn_settled, drawn_stays, true, ◌∙◌}
use Rattle.gen1_machine.specs.Ruling.{ruling_of}
use Rattle.gen1_machine.specs.Turn.{do_part, Acts}
use Rattle.gen1_machine.proofs.Acts.{begin-keeps}
use Rattle.gen1_hits.proofs.Knowledge.{begun_so, over, over_stops}
use Rattle.gen1_turn.proofs.Living.{acted-goes_on}
use Rattle.gen1_turn.proofs.Turns.{acted_left}
use Rattle.gen1_turn.proofs.turn_update.parts.act_and_suffer_as.Goals as goal

pub returns-then-known-clause-shown : goal.returns-then-known-clause-shown
unfolding do_part
returns-then-known-clause-shown t c since g p plan fits v h =
    let k = c.begun.result in
    let s = c.args.side in
    let a = begun_so c.args.known.now k g s c.begun.ensures h in
    let b = over k g (drawn_goes _ _ a (drawn_if_so _ _ _ (a.shows.skips ∙ c.if-known.true) (drawn_stays a))) in
    acted_left k g _ _ _ c.suffer_unless_over.result (do_part (ruling_of g.setting.terms) (Acts s c.args.pick)) s p b (c.suffer_unless_over.ensures.shown _ _ b.1.shows)

pub returns-then-act-clause-shown : goal.returns-then-act-clause-shown
unfolding do_part
returns-then-act-clause-shown t c since g p plan fits v h =
    let a = begun_so c.args.known.now c.begun.result g c.args.side c.begun.ensures h in
    let valid = (begin-keeps g.setting.terms plan c.args.side).kept p v in
    let b = c.act.ensures.shown since g _ plan fits valid (over c.begun.result g a) in
    let d = drawn_goes _ _ a (drawn_if_not _ _ _ (a.shows.skips ∙ c.if-known.false) b.1) in
    λ rest. (true, over_stops c.act.new.known g _ _ (b.0, drawn_settled c.if-act.true d))

pub returns-clause-shown : goal.returns-clause-shown
unfolding do_part
returns-clause-shown t c since g p plan fits v h =
    let k = c.act.new.known in
    let s = c.args.side in
    let a = begun_so c.args.known.now c.begun.result g s c.begun.ensures h in
    let valid = (begin-keeps g.setting.terms plan s).kept p v in
    let b = c.act.ensures.shown since g _ plan fits valid (over c.begun.result g a) in
    let d = drawn_settled c.if-act.false (drawn_goes _ _ a (drawn_if_not _ _ _ (a.shows.skips ∙ c.if-known.false) b.1)) in
    let goes_on = acted-goes_on (ruling_of g.setting.terms) s c.args.pick p h.1.shows.ends (a.shows.skips ∙ c.if-known.false) d.shows.ends in
    acted_left k g _ _ _ c.suffer.result (do_part (ruling_of g.setting.terms) (Acts s c.args.pick)) s p (b.0, d) (c.suffer.ensures.shown _ _ goes_on d.shows)
