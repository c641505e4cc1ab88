use Rattle.std.proofs.Common.{◌≡◌, ◌≤◌, drop}
use Rattle.gen1_text.proofs.TextLemmas.{number_on}
use Rattle.gen1_text.proofs.spread.number_in.Given as goal

abbrev pub invariant-loop-digit : goal.invariant-loop-digit
invariant-loop-digit l = (number_on l.fn.most l.number (drop l.digit-index l.text) ≡ number_on l.fn.most 0 l.text) × (l.number ≤ l.fn.most)
