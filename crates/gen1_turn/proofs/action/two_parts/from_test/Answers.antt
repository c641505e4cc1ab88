use Rattle.std.proofs.lemmas.Bool.{false≢true}
use Rattle.gen1_layout.proofs.Words.{Progress, ap, quietly, refl, still, sym, ◌∙◌}
use Rattle.gen1_machine.specs.Action.{keep_accuracy, resume, strike}
use Rattle.gen1_machine.specs.Moves.{move_at}
use Rattle.gen1_machine.specs.Ruling.{ruling_of}
use Rattle.gen1_hits.proofs.Knowledge.{over}
use Rattle.gen1_turn.proofs.Damage.{late-none, struck-like}
use Rattle.gen1_turn.proofs.TwoParts.{not-late, over-as}
use Rattle.gen1_turn.proofs.action.two_parts.from_test.Goals as goal

pub returns-clause-shown : goal.returns-clause-shown
returns-clause-shown t c since g p q usual like h =
    let s = c.args.side in
    let move = move_at c.args.id in
    let r = ruling_of g.setting.terms in
    let k = c.strike.new.known in
    let late = not-late c.args.id usual in
    let none = late-none r s move p late in
    let is = struck-like r s move p q (like, λ tie. absurd (false≢true (sym late ∙ tie))) h.shows.ends (ap (λ (x : Progress). x.stopped) none ∙ h.shows.ends) ∙ ap (strike r s move) none in
    let b = c.strike.ensures.shown since g p h in
    over-as k g (ap (λ (x : Progress). resume (keep_accuracy s x)) is) (over k g (still b (quietly b.shows (c.end_action.ensures.shown _ _ _ _ refl))))
