use Rattle.std.proofs.Common.{◌≡◌, ℕ, ◌+◌, ◌<◌, ◌≤◌, get_or}
use Rattle.gen1_outcomes.specs.declared.nodes.Node.{Node}
use Rattle.gen1_outcomes.specs.Nodes.{IsDone}
use Rattle.gen1_outcomes.proofs.nodes.Nodes.advance.Given as goal

abbrev pub invariant-places : goal.invariant-places
invariant-places l =
    record {
      list : l.self.list ≡ l.fn.self.list;
      at : l.self.at ≡ 0;
      asked : l.self.asked ≡ l.fn.self.asked;
      options : l.self.options ≡ l.fn.self.options;
      before : l.self.before ≡ l.fn.self.before;
      few : l.self.len + l.counter ≤ 24;
      shorter : l.self.len ≤ l.fn.self.len;
      done : (k : ℕ) (none : Node) → l.self.len ≤ k → k < l.fn.self.len → IsDone (get_or l.fn.self.list k none);
    }
