-- The bytes that were read so far are gone from the source and fit the limit, and no read has failed.
use Rattle.std.proofs.Common.{◌≡◌, ◌-◌, ◌≤◌, vec_len}
use Rattle.std.specs.Io.KnownBytes.{Consumes}
use Rattle.gen1_devices.proofs.io.read_whole.Given as goal

abbrev pub invariant-parts : goal.invariant-parts
invariant-parts g l =
    Consumes (g.R.Source.remaining l.initial.source) (g.R.Source.remaining l.source) l.bytes.items
    × (vec_len l.bytes ≤ l.limit)
    × (g.R.Source.has_failed l.source ≡ g.R.Source.has_failed l.initial.source)

abbrev pub decreases-parts : goal.decreases-parts
decreases-parts g l = l.limit - vec_len l.bytes
