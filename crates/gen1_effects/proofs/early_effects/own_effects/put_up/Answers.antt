use Rattle.gen1_layout.proofs.Words.{Field, Progress, Who, ap, changed_conditions, conditions_in, false, slice_index_or, sym, told_so, who_in, ◌∙◌}
use Rattle.gen1_machine.specs.declared.event.Event.TheVariants as events
use Rattle.gen1_machine.specs.Layout.{condition_bits}
use Rattle.gen1_machine.specs.Progress.{conditions, starts}
use Rattle.gen1_effects.proofs.Failing.{ended, fails_then, past_fail}
use Rattle.gen1_effects.proofs.early_effects.own_effects.put_up.Goals as goal

pub returns-then-is_on-clause-shown : goal.returns-then-is_on-clause-shown
returns-then-is_on-clause-shown t c k e low change flagged same g p h =
    ended _ (fails_then c.args.side (λ (q : Progress). slice_index_or (condition_bits (conditions c.args.side q)) k false) (starts c.args.side c.args.what change)
    (sym (c.is_on.ensures.stands k e _ _ h.within) ∙ c.if-is_on.true) c.fail.ensures.shown h)

pub returns-clause-shown : goal.returns-clause-shown
unfolding starts
returns-clause-shown t c k e low change flagged same g p h =
    let old = conditions_in c.args.side p.field in
    let w = c.put_flag.ensures.stands k e low _ p.field change h.within (flagged old) (same old) in
    let a = told_so h (changed_conditions c.args.side change) (λ (f : Field). events.Start (who_in c.args.side f) c.args.what) w c.push.ensures.told
    (ap (λ (who : Who). events.Start who c.args.what) (c.who.ensures.stands _ _ w)) in
    ended _ (past_fail c.args.side (λ (q : Progress). slice_index_or (condition_bits (conditions c.args.side q)) k false) (starts c.args.side c.args.what change)
    (sym (c.is_on.ensures.stands k e _ _ h.within) ∙ c.if-is_on.false) h a)
