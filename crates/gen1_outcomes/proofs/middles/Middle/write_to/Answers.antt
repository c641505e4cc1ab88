use Rattle.std.proofs.Common.{◌≡◌, length, arith}
use Rattle.gen1_outcomes.proofs.Closing.{bytes_written}
use Rattle.gen1_outcomes.proofs.middles.Middle.write_to.Goals as goal

pub returns : goal.returns
returns c =
    let long : length c.args.self.now.bytes ≡ 384 = omega arith in
    bytes_written c.args.self.now.bytes c.copy_from_slice.new.self c.copy_from_slice-2.new.self c.args.battle.now long c.copy_from_slice.ensures.after
    c.copy_from_slice-2.ensures.after
