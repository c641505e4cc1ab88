use Rattle.std.proofs.Common.{length-append, sym, ◌++◌}
use Rattle.gen1_c.proofs.Writing.{ended_writes}
use Rattle.gen1_c.proofs.choices.write_joined.Goals as goal

pub returns-clause-writes : goal.returns-clause-writes
returns-clause-writes c =
    ended_writes (c.args.head.now ++ c.args.name.now) c.args.text.now c.put_both.new.text _ c.args.written.now
    (sym (length-append c.args.head.now c.args.name.now)) c.if-text-count.false c.put_both.ensures
