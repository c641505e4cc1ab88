use Rattle.gen1_layout.proofs.Words.{active_ok, sym, underway_in, ◌∙◌}
use Rattle.gen1_layout.proofs.Counts.{without_bide-off, without_bide-on, without_thrash-off, without_thrash-on, without_trapping-off, without_trapping-on}
use Rattle.gen1_layout.proofs.packed.Packed.turns_without.Goals as goal

pub returns-then-is_on : goal.returns-then-is_on
returns-then-is_on c =
    record {
      bide = λ g f h e. without_bide-on (underway_in c.args.side f).bide (underway_in c.args.side f).thrash (underway_in c.args.side f).trapping (active_ok c.args.side h).conditions.underway.alone (sym (c.is_on.ensures.stands 0 e g f h) ∙ c.if-is_on.true);
      thrash = λ g f h e. without_thrash-on (underway_in c.args.side f).bide (underway_in c.args.side f).thrash (underway_in c.args.side f).trapping (active_ok c.args.side h).conditions.underway.alone (sym (c.is_on.ensures.stands 1 e g f h) ∙ c.if-is_on.true);
      trapping = λ g f h e. without_trapping-on (underway_in c.args.side f).bide (underway_in c.args.side f).thrash (underway_in c.args.side f).trapping (active_ok c.args.side h).conditions.underway.alone (sym (c.is_on.ensures.stands 2 e g f h) ∙ c.if-is_on.true);
    }

pub returns-else-is_on : goal.returns-else-is_on
returns-else-is_on c =
    record {
      bide = λ g f h e. rw (c.active.ensures.stands g f h) (without_bide-off (underway_in c.args.side f).bide (underway_in c.args.side f).thrash (underway_in c.args.side f).trapping (sym (c.is_on.ensures.stands 0 e g f h) ∙ c.if-is_on.false));
      thrash = λ g f h e. rw (c.active.ensures.stands g f h) (without_thrash-off (underway_in c.args.side f).bide (underway_in c.args.side f).thrash (underway_in c.args.side f).trapping (sym (c.is_on.ensures.stands 1 e g f h) ∙ c.if-is_on.false));
      trapping = λ g f h e. rw (c.active.ensures.stands g f h) (without_trapping-off (underway_in c.args.side f).bide (underway_in c.args.side f).thrash (underway_in c.args.side f).trapping (sym (c.is_on.ensures.stands 2 e g f h) ∙ c.if-is_on.false));
    }
