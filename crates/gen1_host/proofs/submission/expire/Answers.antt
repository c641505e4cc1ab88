use Rattle.std.proofs.Common.{sym, ◌∙◌}
use Rattle.gen1_host.specs.Table.{Expire}
use Rattle.gen1_host.proofs.Calls.{expire_chosen, expire_loses, expire_makes, expire_stale}
use Rattle.gen1_host.proofs.Tables.{takes_in_turn, takes_over}
use Rattle.gen1_host.proofs.submission.expire.Goals as goal

pub returns-then-is_closed-clause-takes : goal.returns-then-is_closed-clause-takes
returns-then-is_closed-clause-takes c t k =
    takes_over (Expire c.args.numbers.now c.args.side c.args.number) k (sym (c.is_closed.ensures t k) ∙ c.if-is_closed.true)

pub returns-then-number-host-clause-takes : goal.returns-then-number-host-clause-takes
returns-then-number-host-clause-takes c t k =
    takes_in_turn (Expire c.args.numbers.now c.args.side c.args.number) (sym (c.is_closed.ensures t k) ∙ c.if-is_closed.false)
    (expire_stale c.args.numbers.now c.args.side c.args.number k c.if-number-host.true)

pub returns-then-has_chosen-clause-takes : goal.returns-then-has_chosen-clause-takes
returns-then-has_chosen-clause-takes c t k =
    takes_in_turn (Expire c.args.numbers.now c.args.side c.args.number) (sym (c.is_closed.ensures t k) ∙ c.if-is_closed.false)
    (expire_chosen c.args.numbers.now c.args.side c.args.number k c.if-number-host.false (sym (c.has_chosen.ensures t.course k.keeps) ∙ c.if-has_chosen.true))

pub returns-then-host-ne0-clause-takes : goal.returns-then-host-ne0-clause-takes
returns-then-host-ne0-clause-takes c t k =
    takes_in_turn (Expire c.args.numbers.now c.args.side c.args.number) (sym (c.is_closed.ensures t k) ∙ c.if-is_closed.false)
    (expire_loses c.args.numbers.now c.args.side c.args.number c.number-host.result k c.if-number-host.false
    (sym (c.has_chosen.ensures t.course k.keeps) ∙ c.if-has_chosen.false) c.if-host-ne0.true c.number-host.ensures)

pub returns-clause-takes : goal.returns-clause-takes
returns-clause-takes c t k =
    takes_in_turn (Expire c.args.numbers.now c.args.side c.args.number) (sym (c.is_closed.ensures t k) ∙ c.if-is_closed.false)
    (expire_makes c.args.numbers.now c.args.side c.args.number c.first_due-byte.result k c.if-number-host.false
    (sym (c.has_chosen.ensures t.course k.keeps) ∙ c.if-has_chosen.false) c.if-host-ne0.false (c.first_due-byte.ensures t.course k.keeps) (c.submit_now.ensures.follows t k))
