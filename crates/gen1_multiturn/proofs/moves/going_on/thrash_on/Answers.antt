use Rattle.gen1_layout.proofs.Words.{Option, Some, active_ok, ap, arith, conditions_in, drawn_goes, drawn_if_not, drawn_if_so, drawn_stays, put_on_conditions, refl, still, subst, sym, ℕ, ◌∙◌}
use Rattle.gen1_machine.specs.Conditions.{with_thrash_one_less, without_thrash}
use Rattle.gen1_machine.specs.GoingOn.{thrash_less}
use Rattle.gen1_machine.specs.Valid.{IsCount}
use Rattle.gen1_status.proofs.Statuses.{at_most, not_at_most}
use Rattle.gen1_multiturn.proofs.Underways.{beside-thrash, less_thrash}
use Rattle.gen1_multiturn.proofs.moves.going_on.thrash_on.Goals as goal

pub returns-in_default-clause-shown : goal.returns-in_default-clause-shown
unfolding thrash_less
returns-in_default-clause-shown t c since g p is h = rw c.in_default.is (drawn_stays h)

pub returns-then-turns-le1-clause-shown : goal.returns-then-turns-le1-clause-shown
unfolding thrash_less without_thrash
returns-then-turns-le1-clause-shown t c since g p is h =
    let s = c.args.side in
    let w = c.end_thrash.ensures.stands _ p.field without_thrash h.shows.within refl in
    let a = still h (put_on_conditions h.shows s without_thrash w) in
    rw c.in-Some.is (drawn_if_so _ _ _ (at_most _ 1 c.if-turns-le1.true) (drawn_goes _ _ a (c.confuse.ensures.shown since g _ a)))

pub returns-clause-shown : goal.returns-clause-shown
unfolding thrash_less
returns-clause-shown t c since g p is h =
    let s = c.args.side in
    let now = conditions_in s p.field in
    let turns = c.in-Some.turns in
    let so = is ∙ c.in-Some.is in
    let ok = (active_ok s h.shows.within).conditions.underway in
    let known = subst (λ (o : Option ℕ). IsCount 0 3 o) so ok.thrash in
    let less = less_thrash now turns so
    ∙ ap (λ (n : ℕ). record now { underway = record now.underway { thrash = Some n } }) (sym c.saturating_sub.ensures) in
    let alone = beside-thrash now.underway turns ok so in
    let w = c.put_thrash.ensures.stands _ p.field with_thrash_one_less h.shows.within less (omega (arith, known.1, c.saturating_sub.ensures)) alone.0 alone.1 in
    rw c.in-Some.is (drawn_if_not _ _ _ (not_at_most _ 1 c.if-turns-le1.false) (still h (put_on_conditions h.shows s with_thrash_one_less w)))
