use Rattle.std.proofs.Common.{◌≡◌}
use Rattle.gen1_layout.proofs.Words.{ap, arith, false, lit<, nat_le, nat_tests, true, ℕ, ◌∙◌}
use Rattle.gen1_rolls.proofs.Standing.{exactly}
use Rattle.gen1_machine.specs.FixedDamage.{is_psywave}
use Rattle.gen1_machine.specs.Progress.{set_last_damage}
use Rattle.gen1_hits.proofs.Knowledge.{found_by_drawing}
use Rattle.gen1_multiturn.proofs.MoveHits.{above_level_one, at_level_one}
use Rattle.gen1_multiturn.proofs.moves.special_damage.psywave.Goals as goal

pub returns-then-level-le1-clause-deals : goal.returns-then-level-le1-clause-deals
returns-then-level-le1-clause-deals t c parts since g events p h =
    let small : nat_le c.args.level 1 ≡ true = grind (arith, nat_tests) in
    (p.drawn, h, at_level_one c.args.level p small)

-- 1 is below each limit, and each byte is drawn.
pub unreachable-requires : goal.unreachable-requires
unreachable-requires t c =
    let meets : is_psywave c.args.level 1 ≡ true = grind (arith, nat_tests) in
    let none = (rw c.psywave_bytes.ensures at c.in-None.ensures.none).none_meets 1 (lit< tt) in cc

pub returns-clause-deals : goal.returns-clause-deals
returns-clause-deals t c parts since g events p h =
    let large : nat_le c.args.level 1 ≡ false = grind (arith, nat_tests) in
    let exact = exactly (rw c.psywave_bytes.ensures at c.in-Some.ensures.found) in
    let found = found_by_drawing (is_psywave c.args.level) set_last_damage c.in-Some.byte h (exact.on since) (λ x same q. ap (λ (n : ℕ). set_last_damage n q) same) in
    rw c.from.ensures (found.0, found.1, above_level_one c.args.level p large ∙ found.2)
