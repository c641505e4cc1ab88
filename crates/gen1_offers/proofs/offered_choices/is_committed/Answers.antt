use Rattle.std.proofs.Common.{[], ap, ◌∙◌, ◌∷◌, ℕ}
use Rattle.std.specs.Prelude.{bit_or}
use Rattle.gen1_offers.proofs.offered_choices.is_committed.Goals as goal

pub returns : goal.returns
returns c g f h =
    let three = c.union-2.ensures tt ∙ ap (λ (n : ℕ). bit_or n 2) (c.union.ensures tt) in
    c.has_any.ensures.stands (10 ∷ 11 ∷ 1 ∷ 4 ∷ []) (c.union-commits.ensures tt ∙ ap (λ (n : ℕ). bit_or n 16) three) g f h
