-- The rows so far have their replies.
use Rattle.std.proofs.Common.{map, take, ◌≡◌}
use Rattle.gen1_host.specs.Table.{replies_to, Table, table_after}
use Rattle.gen1_host.specs.Messages.{reply_of}
use Rattle.gen1_host.specs.Hosts.{Hosts, IsWithin, row_at}
use Rattle.gen1_host.proofs.submission.run.Given as goal

abbrev pub invariant-loop-place : goal.invariant-loop-place
invariant-loop-place l =
    ((t : Table) → Hosts l.fn.host t
    → Hosts l.host (table_after (map row_at (take l.place l.rows)) t)
    × (map reply_of (take l.place l.replies) ≡ replies_to (map row_at (take l.place l.rows)) t))
    × (IsWithin l.fn.host → IsWithin l.host)
