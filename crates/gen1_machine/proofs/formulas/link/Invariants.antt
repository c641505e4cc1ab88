-- The number has been renewed once for each nine bytes so far.
use Rattle.std.proofs.Common.{◌≡◌, ◌%◌, slice_index}
use Rattle.gen1_rolls.specs.Streams.{times_renewed}
use Rattle.gen1_machine.proofs.formulas.link.Given as goal

abbrev pub invariant-nines : goal.invariant-nines
invariant-nines l = l.number ≡ times_renewed l.counter (slice_index l.fn.seed (l.n % 9))
