use Rattle.std.proofs.Common.{◌%◌, ◌≡◌}
use Rattle.gen1_layout.proofs.Words.{IsBetween, arith, nat_lt, nat_tests, true, ℕ, ◌∙◌}
use Rattle.gen1_machine.specs.Ruling.{sleep_for}
use Rattle.gen1_effects.proofs.late_effects.sleep_for.Goals as goal

counted : (byte : ℕ) → nat_lt 0 (byte % 8) ≡ true → IsBetween 1 7 (byte % 8)
counted byte e = (grind (arith, nat_tests), omega arith)

pub returns-clause-shown : goal.returns-clause-shown
unfolding sleep_for
returns-clause-shown t c count g p clause h = c.inflict_status.ensures.shown g p (counted c.args.byte count, λ marked. clause ∙ marked) h
