use Rattle.std.proofs.Common.{◌≡◌}
use Rattle.gen1_layout.proofs.Words.{Action, acted, drawing, drawn_seeing, nat_lt, refl, still, ℕ}
use Rattle.gen1_rolls.proofs.Standing.{alike_below}
use Rattle.gen1_machine.specs.Moves.{move_at}
use Rattle.gen1_machine.specs.CriticalHits.{critical_bound_in, critical_by, roll_critical, rotated_left_3, set_critical}
use Rattle.gen1_hits.proofs.damage_numbers.critical.Goals as goal

pub returns-clause-shown : goal.returns-clause-shown
unfolding roll_critical critical_by set_critical
returns-clause-shown t c told since g p h =
    let w = h.shows.within in
    let bound : c.critical_bound-bound.result ≡ critical_bound_in c.args.side (move_at c.args.id) p.field =
    rw (c.species.ensures.stands _ _ w, c.is_on-focused.ensures.stands 8 refl _ _ w) at c.critical_bound-bound.ensures in
    drawing (critical_by c.args.side (move_at c.args.id)) h (c.draw_as.ensures.drawn since) (λ byte is a.
    let same = alike_below (rotated_left_3 c.draw_as.result) (rotated_left_3 byte) c.critical_bound-bound.result is in
    rw (c.rotated_left_3.ensures, same)
    (drawn_seeing _ (λ (b : ℕ). set_critical (nat_lt (rotated_left_3 byte) b)) bound
    (still a (acted (λ (x : Action). record x { critical = nat_lt (rotated_left_3 byte) c.critical_bound-bound.result }) a.shows))))
