use Rattle.std.proofs.Common.{ap, arith, length, subst, sym, ◌<◌, ◌∙◌, ◌≡◌}
use Rattle.std.specs.Prelude.{false, true}
use Rattle.gen1_machine.specs.State.{is_over}
use Rattle.gen1_layout.specs.Parts.{Parts}
use Rattle.gen1_layout.specs.Shows.{Stands}
use Rattle.gen1_engine.specs.declared.result.BattleResult.{BattleResult}
use Rattle.gen1_c.proofs.Updates.{again-over, again-stays}
use Rattle.gen1_c.proofs.many_battles.start_again.Goals as goal
use Rattle.gen1_c.proofs.many_battles.start_again.Goals.{else-place-starts-via-then-place-starts+else-is_over, else-place-starts-via-else-place-starts}

pub returns-then-is_over : goal.returns-then-is_over
returns-then-is_over c s start h first =
    let over : is_over s.field.outcome ≡ true = ap (λ (r : BattleResult). is_over r.outcome) (sym (c.result.ensures s h)) ∙ sym c.is_over.ensures ∙ c.if-is_over.true in
    again-over c.args.starts.now c.args.place c.index-starts-place.result s c.args.random.now.state (omega (arith, c.if-place-starts.true)) over
    (λ t at. c.restart.ensures t (subst (λ (p : Parts). Stands p t) (sym c.index-starts-place.is) at)) start first

pub returns-else-place-starts : goal.returns-else-place-starts
returns-else-place-starts c s start h first =
    let going : c.args.place < length c.args.starts.now → is_over s.field.outcome ≡ false =
    elim c.else-place-starts.branch [
      | else-place-starts-via-then-place-starts+else-is_over w ↦
          λ inside. ap (λ (r : BattleResult). is_over r.outcome) (sym (w.result.ensures s h)) ∙ sym w.is_over.ensures ∙ w.if-is_over.false
      | else-place-starts-via-else-place-starts w ↦ λ inside. absurd (omega (arith, inside, w.if-place-starts.false))
    ] in
    again-stays c.args.starts.now c.args.place c.args.random.now.state h going start first
