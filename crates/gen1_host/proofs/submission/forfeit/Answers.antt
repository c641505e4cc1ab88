use Rattle.std.proofs.Common.{refl, sym, ◌∙◌}
use Rattle.gen1_host.specs.Table.{Forfeit}
use Rattle.gen1_host.proofs.Calls.{loses}
use Rattle.gen1_host.proofs.Tables.{takes_in_turn, takes_over}
use Rattle.gen1_host.proofs.submission.forfeit.Goals as goal

pub returns-then-is_closed-clause-takes : goal.returns-then-is_closed-clause-takes
returns-then-is_closed-clause-takes c t k = takes_over (Forfeit c.args.side) k (sym (c.is_closed.ensures t k) ∙ c.if-is_closed.true)

pub returns-clause-takes : goal.returns-clause-takes
returns-clause-takes c t k =
    takes_in_turn (Forfeit c.args.side) (sym (c.is_closed.ensures t k) ∙ c.if-is_closed.false)
    (record { hosts = loses c.args.side c.number-host.result c.number-host.ensures k; replied = refl })
