use Rattle.std.proofs.Common.{◌+◌, ◌≡◌}
use Rattle.gen1_layout.proofs.Words.{arith, false, lit<, nat_le, nat_tests, refl, sym, true}
use Rattle.gen1_rolls.specs.Streams.{byte_at}
use Rattle.gen1_machine.specs.Damage.{rotated_right_1, times_factor}
use Rattle.gen1_hits.proofs.Knowledge.{varied-most, vary-draws, vary-keeps}
use Rattle.gen1_hits.proofs.damage_formula.factor_up_to.Goals as goal

pub returns-then-damage-le1-clause-varies : goal.returns-then-damage-le1-clause-varies
returns-then-damage-le1-clause-varies g c since n a =
    let small : nat_le c.args.damage 1 ≡ true = grind (arith, nat_tests) in
    record { drawn = n; stands = a; dealt = c.args.damage; sets = λ p same at. vary-keeps c.args.damage n p small at; alike = refl; most = omega arith }

-- 255 is a factor's byte, and each byte is drawn.
pub unreachable-requires : goal.unreachable-requires
unreachable-requires g c =
    let none : true ≡ false = c.in-None.ensures.none.none_meets 255 (lit< tt) in cc

pub returns-clause-varies : goal.returns-clause-varies
returns-clause-varies g c since n a =
    let large : nat_le c.args.damage 1 ≡ false = grind (arith, nat_tests) in
    let x = c.in-Some.ensures.found.on since n a in
    let byte = byte_at since.source.stream x.place in
    record {
      drawn = x.place + 1;
      stands = x.stands;
      dealt = times_factor (rotated_right_1 byte) c.args.damage;
      sets = λ p same at. vary-draws c.args.damage n x.place since.source.stream p large same at x.found;
      alike = rw (c.times_factor.ensures.is, c.rotated.ensures) (sym x.is);
      most = varied-most c.args.damage byte x.fits;
    }
