use Rattle.std.proofs.Common.{ap, refl, sym, ℕ, ◌∙◌}
use Rattle.gen1_machine.specs.Moves.{move_at}
use Rattle.gen1_odds.specs.Odds.{drained}
use Rattle.gen1_c.specs.Odds.{made_of}
use Rattle.gen1_c.proofs.Updates.{kept_out, let_through}
use Rattle.gen1_c.proofs.odds.gen1_drained.Goals as goal

pub returns-in-Some : goal.returns-in-Some
unfolding made_of
returns-in-Some c =
    let id = let_through _ _ _ (sym c.new.ensures ∙ c.in-Some.is) in
    let value = c.drained.ensures ∙ ap (λ (m : ℕ). drained (move_at m) c.args.damage) id.1 in
    rw (id.0, sym value) refl

pub returns-in-None : goal.returns-in-None
unfolding made_of
returns-in-None c = rw (kept_out _ c.args.number (λ is. let none = sym c.in-None.is ∙ c.new.ensures ∙ is in cc)) refl
