use Rattle.std.proofs.Common.{ap, ℕ, ◌∙◌}
use Rattle.gen1_machine.specs.Layout.{number_of_bits}
use Rattle.gen1_layout.specs.Shows.{setting_of}
use Rattle.gen1_offers.specs.OfferedChoices.{living_of, passing}
use Rattle.gen1_offers.proofs.OfferedSet.{packs_of}
use Rattle.gen1_offers.proofs.bench.Bench.new.Goals as goal
use Rattle.std.proofs.Common.{sym}

pub returns-clause-stands : goal.returns-clause-stands
returns-clause-stands c s h = record {
  out = c.beside.ensures.out ∙ c.first_out.ensures.stands s h;
  digits =
      c.beside.ensures.digits (setting_of s) s.field (packs_of h)
      ∙ ap (λ (n : ℕ). number_of_bits (passing 1 n (living_of c.args.side s.field))) (sym c.beside.ensures.out);
}
