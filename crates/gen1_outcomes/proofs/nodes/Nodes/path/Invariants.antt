use Rattle.std.proofs.Common.{◌≡◌, ℕ, ◌<◌, length, slice_index, slice_index_or}
use Rattle.gen1_outcomes.specs.declared.nodes.Node.{Node}
use Rattle.gen1_outcomes.proofs.nodes.Nodes.path.Given as goal

abbrev pub invariant-places : goal.invariant-places
invariant-places l =
    record {
      length : length l.path ≡ 24;
      bytes : (k : ℕ) (none : Node) → k < l.place → slice_index l.path k ≡ (slice_index_or l.self.list k none).byte;
    }
