use Rattle.std.proofs.Common.{◌≡◌}
use Rattle.gen1_layout.proofs.Words.{Progress, drawn_goes, drawn_if_so, drawn_stays, false, refl, subst, sym, true, ◌∙◌}
use Rattle.gen1_machine.specs.Action.{begin}
use Rattle.gen1_machine.specs.Progress.{on_action}
use Rattle.gen1_machine.specs.Ruling.{ruling_of}
use Rattle.gen1_machine.specs.State.{is_over}
use Rattle.gen1_machine.specs.Turn.{do_part, Acts}
use Rattle.gen1_machine.proofs.Acts.{begin-keeps}
use Rattle.gen1_hits.proofs.Knowledge.{begun_so, over, over_stops}
use Rattle.gen1_turn.proofs.Turns.{acted_left}
use Rattle.gen1_turn.proofs.TwoParts.{acted-is, begins-fresh, over-as, over-settled, resumed-goes}
use Rattle.gen1_turn.proofs.turn_update.parts.act_to_roll.Goals as goal

pub returns-then-known-clause-shown : goal.returns-then-known-clause-shown
unfolding do_part
returns-then-known-clause-shown t c since g p plan fits v h =
    let k = c.begun.result in
    let s = c.args.side in
    let a = begun_so c.args.known.now k g s c.begun.ensures h in
    let b = over k g (drawn_goes _ _ a (drawn_if_so _ _ _ (a.shows.skips ∙ c.if-known.true) (drawn_stays a))) in
    acted_left k g _ _ _ c.suffer_unless_over.result (do_part (ruling_of g.setting.terms) (Acts s c.args.pick)) s p b (c.suffer_unless_over.ensures.shown _ _ b.1.shows)

pub returns-in-Ended-true-clause-shown : goal.returns-in-Ended-true-clause-shown
unfolding begin on_action
returns-in-Ended-true-clause-shown t c since g p plan fits v h =
    let s = c.args.side in
    let pick = c.args.pick in
    let a = begun_so c.args.known.now c.begun.result g s c.begun.ensures h in
    let acts = a.shows.skips ∙ c.if-known.false in
    let valid = (begin-keeps g.setting.terms plan s).kept p v in
    let ended = rw c.in-Ended-true.is at (c.to_roll.ensures.shown since g (begin s p) (begins-fresh s p acts) plan fits valid refl a) in
    let b = over-settled c.to_roll.new.known g c.in-Ended-true.field-0-test ended in
    let is = acted-is (ruling_of g.setting.terms) s pick p h.1.shows.ends acts in
    λ rest. (true, over_stops c.to_roll.new.known g _ _ (rw is b))

pub returns-in-Ended-false-clause-shown : goal.returns-in-Ended-false-clause-shown
unfolding begin on_action
returns-in-Ended-false-clause-shown t c since g p plan fits v h =
    let s = c.args.side in
    let pick = c.args.pick in
    let r = ruling_of g.setting.terms in
    let k = c.to_roll.new.known in
    let a = begun_so c.args.known.now c.begun.result g s c.begun.ensures h in
    let acts = a.shows.skips ∙ c.if-known.false in
    let valid = (begin-keeps g.setting.terms plan s).kept p v in
    let ended = rw c.in-Ended-false.is at (c.to_roll.ensures.shown since g (begin s p) (begins-fresh s p acts) plan fits valid refl a) in
    let b = over-settled c.to_roll.new.known g c.in-Ended-false.field-0-test ended in
    let is = acted-is r s pick p h.1.shows.ends acts in
    let goes_on = subst (λ (x : Progress). is_over x.field.outcome ≡ false) (sym is) (resumed-goes _ b.1.shows.ends) in
    let d = over-as k g is b in
    acted_left k g _ _ _ c.suffer.result (do_part r (Acts s pick)) s p d (c.suffer.ensures.shown _ _ goes_on d.1.shows)

pub returns-in-Rolls-clause-shown : goal.returns-in-Rolls-clause-shown
unfolding begin on_action
returns-in-Rolls-clause-shown t c since g p plan fits v h =
    let s = c.args.side in
    let a = begun_so c.args.known.now c.begun.result g s c.begun.ensures h in
    let acts = a.shows.skips ∙ c.if-known.false in
    let valid = (begin-keeps g.setting.terms plan s).kept p v in
    let b = rw c.in-Rolls.is at (c.to_roll.ensures.shown since g (begin s p) (begins-fresh s p acts) plan fits valid refl a) in
    record { here = b.here; shows = b.shows; rolling = b.rolling; left = acted-is (ruling_of g.setting.terms) s c.args.pick p h.1.shows.ends acts ∙ b.left }
