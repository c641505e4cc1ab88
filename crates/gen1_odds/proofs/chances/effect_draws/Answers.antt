use Rattle.std.proofs.Common.{Bool, ap, refl, sym, ℕ, ◌∙◌, ◌≡◌}
use Rattle.gen1_tables.specs.declared.effect.Effect.{Effect}
use Rattle.gen1_tables.specs.declared.effect.Effect.TheVariants as effects
use Rattle.gen1_machine.specs.declared.side.Side.{Side}
use Rattle.gen1_machine.specs.Moves.{Move}
use Rattle.gen1_machine.specs.Rules.{Rules}
use Rattle.gen1_machine.specs.Sides.{other}
use Rattle.gen1_machine.specs.State.{Field}
use Rattle.gen1_layout.specs.Words.{move_at}
use Rattle.gen1_odds.specs.Odds.{effect_draws, harm_draws, unless_guarded}
use Rattle.gen1_odds.specs.Trials.{has_substitute_in}
use Rattle.gen1_odds.proofs.chances.effect_draws.Goals as goal

kept_away : (r : Rules) (s : Side) (move : Move) (f : Field) (e : Effect) → ((n : ℕ) → e ≡ effects.ConfusionChance n → ⊥)
    → (e ≡ effects.Disable → ⊥) → (e ≡ effects.Recharge → ⊥)
    → unless_guarded (has_substitute_in (other s) f) (harm_draws r s move f e) ≡ effect_draws r s move f e
kept_away r s move f (effects.ConfusionChance n) a b c = absurd (a n refl)
kept_away r s move f effects.Disable a b c = absurd (b refl)
kept_away r s move f effects.Recharge a b c = absurd (c refl)
kept_away r s move f _ a b c = refl

pub returns-in_default : goal.returns-in_default
returns-in_default c = record {
  stands = λ g f h.
      let covered = c.has_substitute.ensures.stands g f h ∙ ap (λ (t : Side). has_substitute_in t f) c.other-foe.ensures in
      c.unless_guarded-in_default.ensures.value
      ∙ ap (λ (x : Bool). unless_guarded x c.harm_draws.result) covered
      ∙ ap (λ (n : ℕ). unless_guarded (has_substitute_in (other c.args.side) f) n) (c.harm_draws.ensures.stands g f h)
      ∙ kept_away g.terms.rules c.args.side (move_at c.args.id) f c.args.effect c.in_default.not-ConfusionChance c.in_default.not-Disable c.in_default.not-Recharge;
  most = c.unless_guarded-in_default.ensures.most c.harm_draws.ensures.most;
}
