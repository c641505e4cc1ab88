use Rattle.gen1_layout.proofs.Words.{on_conditions, quietly, still, then-goes, ◌∙◌}
use Rattle.gen1_machine.specs.declared.side.Side.TheVariants.{One, Two}
use Rattle.gen1_machine.specs.Conditions.{without_flinch}
use Rattle.gen1_machine.specs.Turn.{turn}
use Rattle.gen1_hits.specs.Knowing.{knowing, with_broke}
use Rattle.gen1_turn.proofs.Living.{flinch-brings, flinch-whole}
use Rattle.gen1_turn.proofs.Turns.{cut_as, flinch-planned}
use Rattle.gen1_turn.proofs.turn_update.choices.take_turn.Goals as goal

pub returns-clause-shown : goal.returns-clause-shown
unfolding turn
returns-clause-shown t c since g p plan (one, two, x, y, whole) v h =
    let terms = g.setting.terms in
    let a = still {g' = knowing (with_broke h.0 c.args.known.now) g} h.1 (quietly h.1.shows (c.end_flinch.ensures.shown _ _ _)) in
    let va = (flinch-planned terms plan One).kept p v in
    let b = still {g' = knowing (with_broke h.0 c.args.known.now) g} a (quietly a.shows (c.end_flinch-2.ensures.shown _ _ _)) in
    let vb = (flinch-planned terms plan Two).kept _ va in
    let still_one = flinch-brings c.args.one Two One _ (flinch-brings c.args.one One One p x) in
    let still_two = flinch-brings c.args.two Two Two _ (flinch-brings c.args.two One Two p y) in
    let q = c.act_on_choices.ensures.shown since g _ plan (one, two, still_one, still_two, flinch-whole Two _ (flinch-whole One p whole)) vb (h.0, b) in
    cut_as c.act_on_choices.new.known g _ _ (then-goes (on_conditions One without_flinch) _ p a.shows.ends ∙ then-goes (on_conditions Two without_flinch) _ _ b.shows.ends) q
