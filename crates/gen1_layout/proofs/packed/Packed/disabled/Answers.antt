use Rattle.gen1_layout.proofs.Words.{conditions_in, none_back, refl, sym, ◌∙◌}
use Rattle.gen1_layout.proofs.Counts.{disabled_back}
use Rattle.gen1_layout.proofs.packed.Packed.disabled.Goals as goal

pub returns-then-is_on : goal.returns-then-is_on
returns-then-is_on c =
    record {
      stands = λ g f h.
          rw (c.active-active.ensures.stands g f h) (disabled_back (conditions_in c.args.side f).disabled (sym (c.is_on.ensures.stands 16 refl g f h) ∙ c.if-is_on.true));
    }

pub returns-else-is_on : goal.returns-else-is_on
returns-else-is_on c =
    record { stands = λ g f h. none_back (conditions_in c.args.side f).disabled (sym (c.is_on.ensures.stands 16 refl g f h) ∙ c.if-is_on.false) }
