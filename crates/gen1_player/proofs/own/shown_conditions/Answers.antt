use Rattle.std.proofs.Common.{ap, refl, sym, ℕ, ◌-◌, ◌∙◌}
use Rattle.gen1_machine.specs.State.{conditions_in}
use Rattle.gen1_player.proofs.Fairness.{flinch_hidden, no_flinch}
use Rattle.gen1_player.proofs.own.shown_conditions.Goals as goal

pub returns-then-is_on : goal.returns-then-is_on
returns-then-is_on c g f h =
    let on = sym (c.is_on.ensures.stands 3 refl g f h) ∙ c.if-is_on.true in
    c.saturating_sub.ensures ∙ ap (λ (n : ℕ). n - 8) (c.bits-all.ensures tt ∙ c.conditions.ensures.stands g f h)
    ∙ flinch_hidden (conditions_in c.args.side f) on

pub returns-else-is_on : goal.returns-else-is_on
returns-else-is_on c g f h =
    let off = sym (c.is_on.ensures.stands 3 refl g f h) ∙ c.if-is_on.false in
    c.bits-all.ensures tt ∙ c.conditions.ensures.stands g f h ∙ no_flinch (conditions_in c.args.side f) off
