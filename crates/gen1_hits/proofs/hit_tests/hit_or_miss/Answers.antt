use Rattle.std.proofs.Common.{ap, if◌then◌else◌, sym, ◌∙◌}
use Rattle.gen1_machine.specs.Moves.{accuracy_byte, move_at}
use Rattle.gen1_machine.specs.Progress.{active, Action}
use Rattle.gen1_machine.specs.HitTest.{hit_or_miss, hit_test}
use Rattle.gen1_layout.proofs.Chain.{drawn_seeing}
use Rattle.gen1_hits.specs.Knowing.{knowing}
use Rattle.gen1_hits.proofs.hit_tests.hit_or_miss.Goals as goal

pub returns-clause-shown : goal.returns-clause-shown
unfolding hit_or_miss
returns-clause-shown t c events since g p h =
    let base = c.base_of-base.ensures.stands _ _ h.shows.within
    ∙ ap (λ (a : Action). if a.going_on then (active c.args.side p).kept_accuracy else accuracy_byte (move_at c.args.id)) (sym h.shows.action) in
    rw c.missed_after-known.ensures (drawn_seeing _ (hit_test c.args.side (move_at c.args.id)) base (c.hit_test-test.ensures.shown events since (knowing c.args.known.now g) p h))
