use Rattle.std.proofs.Common.{◌≡◌}
use Rattle.gen1_layout.proofs.Words.{ap, false, lit<, still, true, ℕ}
use Rattle.gen1_stats.specs.declared.member.Status.TheVariants.{Asleep}
use Rattle.gen1_machine.specs.declared.event.Kind.TheVariants as kinds
use Rattle.gen1_machine.specs.Progress.{inflict}
use Rattle.gen1_machine.specs.Ruling.{fall_asleep, is_sleep_count, sleep_for}
use Rattle.gen1_hits.proofs.Knowledge.{drawn_until}
use Rattle.gen1_effects.proofs.late_effects.fall_asleep.Goals as goal

-- 1 gives a count, and each byte is drawn.
pub unreachable-requires : goal.unreachable-requires
unreachable-requires t c =
    let none : true ≡ false = c.in_default.ensures.none.none_meets 1 (lit< tt) in cc

pub returns-clause-shown : goal.returns-clause-shown
unfolding fall_asleep sleep_for
returns-clause-shown t c since g p clause h =
    let like = c.in-Some.ensures.found in
    drawn_until is_sleep_count (sleep_for c.args.marked c.args.side) c.in-Some.byte h (like.on since)
    (λ x same q. ap (λ (n : ℕ). inflict c.args.side (Asleep n c.args.marked) kinds.Sleep q) same)
    (λ n a. still {g' = g} a (c.sleep_for.ensures.shown like.meets _ _ clause a.shows))
