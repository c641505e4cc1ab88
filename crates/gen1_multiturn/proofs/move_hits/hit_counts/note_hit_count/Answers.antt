use Rattle.std.proofs.Common.{◌≡◌}
use Rattle.gen1_layout.proofs.Words.{Action, ap, if_not, if_so, is_some, noted, refl, seeing, stays, sym, who_in, ◌∙◌}
use Rattle.gen1_machine.specs.declared.event.Event.TheVariants as events
use Rattle.gen1_machine.specs.ManyHits.{note_hit_count}
use Rattle.gen1_layout.proofs.WaysBack.{taken}
use Rattle.gen1_multiturn.proofs.move_hits.hit_counts.note_hit_count.Goals as goal

pub returns-then-not-is_some-clause-shown : goal.returns-then-not-is_some-clause-shown
returns-then-not-is_some-clause-shown t c g p h = if_not _ _ _ (ap (λ (a : Action). is_some a.hits_planned) h.action ∙ sym c.is_some.ensures ∙ c.if-not-is_some.true) (stays h)

pub returns-in-Some-clause-shown : goal.returns-in-Some-clause-shown
unfolding note_hit_count
returns-in-Some-clause-shown t c g p h =
    let n = c.args.known.now.hits_made in
    let is : c.in-Some.hits ≡ n = let e = c.in-Some.ensures ∙ taken 1 5 n n c.requires.made in cc in
    let who = c.who.ensures.stands _ _ h.within in
    if_so _ _ _ (ap (λ (a : Action). is_some a.hits_planned) h.action ∙ sym c.is_some.ensures ∙ c.if-not-is_some.false)
    (seeing (λ q. q.action.hits_made) (note_hit_count c.args.target) (sym (ap (λ (a : Action). a.hits_made) h.action))
    (noted h (λ f. events.HitCount (who_in c.args.target f) n) c.push.ensures.told (rw (who, is) refl)))

pub returns-in_default-clause-shown : goal.returns-in_default-clause-shown
returns-in_default-clause-shown t c g p h =
    let n = c.args.known.now.hits_made in
    let none = c.in_default.ensures ∙ taken 1 5 n n c.requires.made in cc
