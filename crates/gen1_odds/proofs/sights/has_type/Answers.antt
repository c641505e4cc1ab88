use Rattle.std.proofs.Common.{◌≡◌}
use Rattle.gen1_layout.proofs.Words.{active_in, ap, false, sym, true, ◌∙◌}
use Rattle.gen1_tables.specs.Types.{same_type}
use Rattle.gen1_tables.proofs.Named.{same-is}
use Rattle.gen1_odds.proofs.sights.has_type.Goals as goal

pub returns-then-eq : goal.returns-then-eq
returns-then-eq c = record {
  stands = λ g f h.
      let first : same_type c.args.kind (active_in c.args.side f).first_type ≡ true =
      ap (same_type c.args.kind) (sym (c.first_type-first.ensures.stands g f h)) ∙ sym (same-is c.args.kind _) ∙ sym c.eq.ensures ∙ c.if-eq.true in
      rw first c.if-eq.true;
}

pub returns-else-eq : goal.returns-else-eq
returns-else-eq c = record {
  stands = λ g f h.
      let first : same_type c.args.kind (active_in c.args.side f).first_type ≡ false =
      ap (same_type c.args.kind) (sym (c.first_type-first.ensures.stands g f h)) ∙ sym (same-is c.args.kind _) ∙ sym c.eq.ensures ∙ c.if-eq.false in
      rw first (c.eq-else-eq.ensures ∙ same-is c.args.kind _ ∙ ap (same_type c.args.kind) (c.second_type-second.ensures.stands g f h));
}
