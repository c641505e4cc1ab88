use Rattle.std.proofs.Common.{[], refl, ◌∷◌}
use Rattle.gen1_odds.proofs.sights.must_continue.Goals as goal

pub returns : goal.returns
returns c = record { stands = λ g f h. c.has_any.ensures.stands (10 ∷ 11 ∷ 1 ∷ 4 ∷ 0 ∷ 2 ∷ []) refl g f h }
