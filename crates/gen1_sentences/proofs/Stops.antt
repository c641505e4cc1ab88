-- Each sentence ends with a full stop.
use Rattle.std.proofs.lemmas.List.{append-nil}
use Rattle.std.proofs.Common.{ap, append_assoc, sym, List, [], ◌++◌, ◌∙◌, ◌∷◌, ◌≡◌, ℕ}
use Rattle.std.specs.Prelude.{codes}
use Rattle.gen1_machine.specs.Lines.{joined}
use Rattle.gen1_sentences.specs.Sentences.{EachStops, words}

joined_last : (pieces : List (List ℕ)) (piece : List ℕ) → joined (pieces ++ piece ∷ []) ≡ joined pieces ++ piece
joined_last [] piece = append-nil piece
joined_last (first ∷ pieces) piece = ap (λ (l : List ℕ). first ++ l) (joined_last pieces piece) ∙ sym (append_assoc first (joined pieces) piece)

pub sentence_stops : EachStops
sentence_stops n event = (joined (words n event), joined_last (words n event) (codes "."))
