use Rattle.std.proofs.Common.{ap, not, ℕ, ◌==◌, ◌∙◌}
use Rattle.std.specs.Int.RustNames.{bit_and}
use Rattle.gen1_switching.proofs.SwitchingIn.{penalised}
use Rattle.gen1_switching.proofs.switching_in.has_penalty.Goals as goal

pub returns : goal.returns
returns c rules status ok is = ap (λ (n : ℕ). not (bit_and n 80 == 0)) is ∙ penalised rules status ok
