use Rattle.std.proofs.Common.{◌≡◌, length}
use Rattle.gen1_outcomes.specs.Plain.{ArePlain, KeepsUnused}
use Rattle.gen1_outcomes.proofs.plain.write_nodes.Given as goal

abbrev pub invariant-places : goal.invariant-places
invariant-places l =
    record {
      draws : ArePlain l.place l.nodes.list l.written;
      unused : KeepsUnused l.fn.written l.written;
      length : length l.written ≡ 24;
    }
