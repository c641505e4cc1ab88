use Rattle.std.proofs.Common.{arith, ℕ, ◌%◌, ◌*◌, ◌/◌, ◌<◌, ◌∙◌, ◌≡◌}
use Rattle.std.proofs.lemmas.Nat.{or_comm, or_shifted}
use Rattle.std.specs.Int.{rotate_right, w8}
use Rattle.gen1_machine.specs.Damage.{rotated_right_1}
use Rattle.gen1_hits.proofs.damage_formula.rotated.Goals as goal

rotated-is : (b : ℕ) → b < 256 → rotate_right w8 b 1 ≡ rotated_right_1 b
rotated-is b fits =
    let low : b * 128 % 256 ≡ b % 2 * 128 = omega arith in
    rw low (or_comm (b / 2) (b % 2 * 128) ∙ or_shifted (b % 2) 7 (b / 2) (omega arith) ∙ omega arith)

pub returns : goal.returns
returns c = c.rotate_right.ensures ∙ rotated-is c.args.byte (omega arith)
