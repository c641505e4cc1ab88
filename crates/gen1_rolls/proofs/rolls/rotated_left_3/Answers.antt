use Rattle.std.proofs.Common.{arith, ◌%◌, ◌*◌, ◌/◌, ◌<◌, ◌^◌, ◌≡◌, ◌∙◌}
use Rattle.std.proofs.lemmas.Nat.{or_shifted}
use Rattle.gen1_rolls.proofs.rolls.rotated_left_3.Goals as goal

pub returns : goal.returns
returns c =
    let b = c.args.byte in
    let low : b * 8 % 256 ≡ b % 32 * 2 ^ 3 = omega arith in
    let high : b / 32 < 2 ^ 3 = omega arith in
    c.rotate_left.ensures ∙ rw low (or_shifted (b % 32) 3 (b / 32) high)
