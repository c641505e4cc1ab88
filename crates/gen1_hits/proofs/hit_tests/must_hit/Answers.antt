use Rattle.gen1_layout.proofs.Words.{Action, ap, drawn_goes, drawn_if_not, drawn_if_so, drawn_quietly, drawn_stays, halted, refl, still, ◌∙◌}
use Rattle.gen1_machine.specs.HitTest.{must_hit}
use Rattle.gen1_hits.proofs.Knowledge.{plain_still}
use Rattle.gen1_hits.proofs.hit_tests.must_hit.Goals as goal

pub returns-then-not-known-clause-shown : goal.returns-then-not-known-clause-shown
unfolding must_hit
returns-then-not-known-clause-shown t c since g p h =
    let a = drawn_quietly h (c.hit_or_miss.ensures.shown _ since g p) in
    drawn_goes _ _ a (drawn_if_not _ _ _ (ap (λ (x : Action). x.missed) a.shows.action ∙ c.if-not-known.true) (drawn_stays a))

pub returns-clause-shown : goal.returns-clause-shown
unfolding must_hit
returns-clause-shown t c since g p h =
    let a = drawn_quietly h (c.hit_or_miss.ensures.shown _ since g p) in
    let b = plain_still c.hit_or_miss.new.known g _ c.note_miss.ensures.shown a in
    drawn_goes _ _ a (drawn_if_so _ _ _ (ap (λ (x : Action). x.missed) a.shows.action ∙ c.if-not-known.false) (drawn_goes _ _ b (still b (halted b.shows))))
