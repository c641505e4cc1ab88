use Rattle.gen1_layout.proofs.Words.{Bool, Field, Option, Some, Who, active_ok, ap, arith, changed_conditions, choose, conditions_in, refl, stay, stays, still, subst, sym, told_so, who_in, ℕ, ◌∙◌}
use Rattle.gen1_rolls.proofs.Standing.{alike_at_least}
use Rattle.gen1_machine.specs.declared.event.Event.TheVariants as events
use Rattle.gen1_machine.specs.declared.event.Volatile.TheVariants as volatiles
use Rattle.gen1_machine.specs.Conditions.{with_confusion_one_less}
use Rattle.gen1_machine.specs.Progress.{lasts}
use Rattle.gen1_machine.specs.HitOnItself.{hurt_itself}
use Rattle.gen1_machine.specs.Gate.{may_hurt_itself}
use Rattle.gen1_machine.specs.Valid.{IsCount}
use Rattle.gen1_machine.proofs.Keeps.{lasts-keeps, stay-keeps}
use Rattle.gen1_status.specs.declared.gate_answer.Gate.TheVariants.{Go}
use Rattle.gen1_status.proofs.Statuses.{at_most, not_at_most, less_confused}
use Rattle.gen1_status.proofs.Told.{conditions-spare, drawn_tells, still_tells, tells, tells_drawing, tells_goes, tells_if_not, tells_if_so}
use Rattle.gen1_status.proofs.gate_tests.confusion.confusion_lasts.Goals as goal

pub returns-then-draw_as-lt-HITS_ITSELF_FROM-clause-shown : goal.returns-then-draw_as-lt-HITS_ITSELF_FROM-clause-shown
unfolding lasts may_hurt_itself
returns-then-draw_as-lt-HITS_ITSELF_FROM-clause-shown t c since g p is h =
    let known = subst (λ (o : Option ℕ). IsCount 0 5 o) is (active_ok c.args.side h.shows.within).conditions.confused in
    let less = less_confused (conditions_in c.args.side p.field) c.args.turns is
    ∙ ap (λ (n : ℕ). record (conditions_in c.args.side p.field) { confused = Some n }) (sym c.saturating_sub.ensures) in
    let w = c.put_confused.ensures.stands _ p.field with_confusion_one_less h.shows.within less (omega arith, omega (arith, known.1, c.saturating_sub.ensures)) in
    let a = told_so h.shows {events' = t.S.EventSink.tells c.push.new.self} (changed_conditions c.args.side with_confusion_one_less) (λ (f : Field). events.Activate (who_in c.args.side f) volatiles.Confusion) w c.push.ensures.told
    (ap (λ (who : Who). events.Activate who volatiles.Confusion) (c.who.ensures.stands _ _ w)) in
    let b = still_tells h (tells Go (lasts c.args.side volatiles.Confusion with_confusion_one_less) refl (lasts-keeps c.args.side volatiles.Confusion with_confusion_one_less (conditions-spare _ c.args.side with_confusion_one_less)) a) in
    tells_goes _ _ b (tells_drawing (may_hurt_itself c.args.side) c.draw_as.result b.shows (c.draw_as.ensures.drawn since)
    (λ n same. ap (λ (x : Bool). choose (λ _. x) (hurt_itself c.args.side) stay) (alike_at_least _ _ 128 same))
    (λ d. tells_if_not _ _ _ (not_at_most 128 _ c.if-draw_as-lt-HITS_ITSELF_FROM.true) (drawn_tells Go stay refl stay-keeps (still d (stays d.shows)))))

pub returns-clause-shown : goal.returns-clause-shown
unfolding lasts may_hurt_itself
returns-clause-shown t c since g p is h =
    let known = subst (λ (o : Option ℕ). IsCount 0 5 o) is (active_ok c.args.side h.shows.within).conditions.confused in
    let less = less_confused (conditions_in c.args.side p.field) c.args.turns is
    ∙ ap (λ (n : ℕ). record (conditions_in c.args.side p.field) { confused = Some n }) (sym c.saturating_sub.ensures) in
    let w = c.put_confused.ensures.stands _ p.field with_confusion_one_less h.shows.within less (omega arith, omega (arith, known.1, c.saturating_sub.ensures)) in
    let a = told_so h.shows {events' = t.S.EventSink.tells c.push.new.self} (changed_conditions c.args.side with_confusion_one_less) (λ (f : Field). events.Activate (who_in c.args.side f) volatiles.Confusion) w c.push.ensures.told
    (ap (λ (who : Who). events.Activate who volatiles.Confusion) (c.who.ensures.stands _ _ w)) in
    let b = still_tells h (tells Go (lasts c.args.side volatiles.Confusion with_confusion_one_less) refl (lasts-keeps c.args.side volatiles.Confusion with_confusion_one_less (conditions-spare _ c.args.side with_confusion_one_less)) a) in
    tells_goes _ _ b (tells_drawing (may_hurt_itself c.args.side) c.draw_as.result b.shows (c.draw_as.ensures.drawn since)
    (λ n same. ap (λ (x : Bool). choose (λ _. x) (hurt_itself c.args.side) stay) (alike_at_least _ _ 128 same))
    (λ d. tells_if_so _ _ _ (at_most 128 _ c.if-draw_as-lt-HITS_ITSELF_FROM.false) (still_tells d (c.hurt_itself.ensures.shown _ _ d.shows))))
