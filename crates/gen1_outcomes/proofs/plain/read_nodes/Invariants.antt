use Rattle.std.proofs.Common.{◌≡◌, ◌<◌, length, slice_index_or, ℕ}
use Rattle.gen1_outcomes.specs.declared.plain.PlainDraw.{PlainDraw}
use Rattle.gen1_outcomes.specs.Plain.{ArePlain, IsDraw}
use Rattle.gen1_outcomes.proofs.plain.read_nodes.Given as goal

abbrev pub invariant-places : goal.invariant-places
invariant-places l =
    record {
      options : l.nodes.options ≡ l.fn.nodes.options;
      draws : ArePlain l.place l.nodes.list l.walk.draws;
      length : length l.nodes.list ≡ 24;
      reads : (k : ℕ) (none : PlainDraw) → k < l.place → IsDraw (slice_index_or l.walk.draws k none);
    }
