use Rattle.std.proofs.Common.{ap, arith, ℕ, ◌+◌}
use Rattle.gen1_player.specs.declared.teller.Teller.{Teller}
use Rattle.gen1_player.proofs.Retellings.{not_read}
use Rattle.gen1_c.specs.Players.{Telling}
use Rattle.gen1_c.proofs.players.gen1_tell.Goals as goal

pub returns-in-Err : goal.returns-in-Err
returns-in-Err c =
    let kept = ap (λ (t : Teller). let r : Telling = record { teller = t; bytes = c.args.told.now; count = c.args.length.now } in r) c.in-Err.ensures.kept in
    record {
      told = record {
        long = λ h. absurd (omega arith);
        small = λ h k. absurd (omega arith);
        read = λ h k events r. absurd (not_read c.args.log.now c.in-Err.fault c.in-Err.ensures.fault events r);
        broken = λ h k n. (c.in-Err.fault, ap (λ (m : ℕ). 31 + m) c.number.ensures, c.in-Err.ensures.fault);
        told = λ e. absurd (omega arith);
        kept = λ n. kept;
      };
      within = λ e. absurd (omega arith);
    }
