use Rattle.std.proofs.Common.{drop, ◌+◌, ◌≡◌}
use Rattle.gen1_writer.specs.Export.{other_ups_from}
use Rattle.gen1_writer.proofs.written.other_ups.Given as goal

abbrev pub invariant-loop-index : goal.invariant-loop-index
invariant-loop-index l = other_ups_from (l.index + 1) (drop l.index l.specs) ≡ other_ups_from 1 l.specs
