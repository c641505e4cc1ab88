use Rattle.std.proofs.Common.{ap, refl, sym, ℕ, ◌∙◌}
use Rattle.gen1_machine.specs.Moves.{move_at}
use Rattle.gen1_odds.specs.Odds.{takes_hit_test}
use Rattle.gen1_c.specs.Odds.{hit_test_due}
use Rattle.gen1_c.proofs.Updates.{kept_out, let_through}
use Rattle.gen1_c.proofs.odds.gen1_takes_hit_test.Goals as goal

pub returns-in-Some : goal.returns-in-Some
unfolding hit_test_due
returns-in-Some c =
    let id = let_through _ _ _ (sym c.new.ensures ∙ c.in-Some.is) in
    let tested = c.takes_hit_test.ensures ∙ ap (λ (n : ℕ). takes_hit_test (move_at n)) id.1 in
    rw (id.0, sym tested) c.flag_of.ensures

pub returns-in-None : goal.returns-in-None
unfolding hit_test_due
returns-in-None c = rw (kept_out _ c.args.number (λ is. let none = sym c.in-None.is ∙ c.new.ensures ∙ is in cc)) refl
