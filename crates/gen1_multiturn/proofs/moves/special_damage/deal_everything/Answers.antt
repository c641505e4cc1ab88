use Rattle.std.proofs.Common.{◌≡◌}
use Rattle.gen1_layout.proofs.Words.{false, lit<, put_damage, refl, still, true}
use Rattle.gen1_machine.specs.Damage.{is_factor}
use Rattle.gen1_machine.specs.FixedDamage.{deal_everything}
use Rattle.gen1_hits.proofs.Knowledge.{drawn_until}
use Rattle.gen1_multiturn.proofs.moves.special_damage.deal_everything.Goals as goal

-- 255 is a factor's byte, and each byte is drawn.
pub unreachable-requires : goal.unreachable-requires
unreachable-requires t c =
    let none : true ≡ false = c.in_default.ensures.none.none_meets 255 (lit< tt) in cc

pub returns-clause-shown : goal.returns-clause-shown
unfolding deal_everything
returns-clause-shown t c events since g p h =
    drawn_until is_factor deal_everything 0 h (c.in-Some.ensures.found.on since) (λ x same q. refl)
    (λ n a. still {g' = g} a (put_damage a.shows 65535 (c.put_last_damage.ensures.stands _ _ a.shows.within)))
