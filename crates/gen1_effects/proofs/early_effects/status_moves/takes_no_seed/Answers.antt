use Rattle.std.proofs.Common.{◌≡◌}
use Rattle.gen1_layout.proofs.Words.{conditions_in, false, refl, sym, true, ◌∙◌}
use Rattle.gen1_effects.proofs.early_effects.status_moves.takes_no_seed.Goals as goal

pub returns-then-is_on : goal.returns-then-is_on
returns-then-is_on c = record {
  stands = λ g f h.
      let seeded : (conditions_in c.args.side f).seeded ≡ true = sym (c.is_on.ensures.stands 12 refl g f h) ∙ c.if-is_on.true in
      rw seeded c.if-is_on.true;
}

pub returns-else-is_on : goal.returns-else-is_on
returns-else-is_on c = record {
  stands = λ g f h.
      let unseeded : (conditions_in c.args.side f).seeded ≡ false = sym (c.is_on.ensures.stands 12 refl g f h) ∙ c.if-is_on.false in
      rw unseeded (c.has_type.ensures.stands g f h);
}
