use Rattle.gen1_layout.proofs.Words.{Field, Shows, Who, ap, false, goes, halted, lit<, noted, on_conditions, put_on_conditions, quietly, refl, subst, who_in}
use Rattle.gen1_tables.specs.declared.effect.Effect.{Effect}
use Rattle.gen1_machine.specs.declared.event.Event.TheVariants as events
use Rattle.gen1_machine.specs.Charging.{begin_charge, make_current}
use Rattle.gen1_machine.specs.Conditions.{with_charging, with_invulnerability}
use Rattle.gen1_tables.specs.Effects.{hides}
use Rattle.gen1_machine.specs.Progress.{only}
use Rattle.gen1_multiturn.proofs.Underways.{charged-same}
use Rattle.gen1_multiturn.proofs.moves.charging.begin_charge.Goals as goal

pub returns-clause-shown : goal.returns-clause-shown
unfolding begin_charge with_charging
returns-clause-shown t c g p fits h =
    let s = c.args.side in
    let a = quietly h (c.make_current.ensures.shown _ g p fits) in
    let b = put_on_conditions a s with_charging (c.put_flag.ensures.stands 4 refl (lit< tt) _ _ with_charging a.within refl (charged-same _)) in
    let d = subst (λ (x : Effect). Shows g c.hide.new.battle (t.S.EventSink.tells c.args.events.now) false (only (hides x) (on_conditions s with_invulnerability) (on_conditions s with_charging (make_current s c.args.pick p))))
    c.effect.ensures (quietly b (c.hide.ensures.shown _ g _)) in
    let e = noted d (λ (f : Field). events.Prepare (who_in s f) c.args.id) c.push.ensures.told
    (ap (λ (w : Who). events.Prepare w c.args.id) (c.who.ensures.stands _ _ d.within)) in
    goes _ _ a (goes _ _ b (goes _ _ d (goes _ _ e (halted e))))
