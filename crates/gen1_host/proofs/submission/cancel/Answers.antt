use Rattle.std.proofs.Common.{sym, ◌∙◌}
use Rattle.gen1_host.specs.Table.{Cancel}
use Rattle.gen1_host.proofs.Calls.{cancel_not_allowed, cancel_nothing, cancel_stale, cancels}
use Rattle.gen1_host.proofs.Submissions.{is_not_asked}
use Rattle.gen1_host.proofs.Tables.{takes_in_turn, takes_over}
use Rattle.gen1_host.proofs.submission.cancel.Goals as goal

pub returns-then-is_closed-clause-takes : goal.returns-then-is_closed-clause-takes
returns-then-is_closed-clause-takes c t k = takes_over (Cancel c.args.side c.args.number) k (sym (c.is_closed.ensures t k) ∙ c.if-is_closed.true)

pub returns-then-host-eq0-clause-takes : goal.returns-then-host-eq0-clause-takes
returns-then-host-eq0-clause-takes c t k =
    takes_in_turn (Cancel c.args.side c.args.number) (sym (c.is_closed.ensures t k) ∙ c.if-is_closed.false)
    (cancel_not_allowed c.args.side c.args.number k c.if-host-eq0.true)

pub returns-then-number-host-clause-takes : goal.returns-then-number-host-clause-takes
returns-then-number-host-clause-takes c t k =
    takes_in_turn (Cancel c.args.side c.args.number) (sym (c.is_closed.ensures t k) ∙ c.if-is_closed.false)
    (cancel_stale c.args.side c.args.number k c.if-host-eq0.false c.if-number-host.true)

pub returns-then-has_none_to_cancel-clause-takes : goal.returns-then-has_none_to_cancel-clause-takes
returns-then-has_none_to_cancel-clause-takes c t k =
    takes_in_turn (Cancel c.args.side c.args.number) (sym (c.is_closed.ensures t k) ∙ c.if-is_closed.false)
    (cancel_nothing c.args.side c.args.number k c.if-host-eq0.false c.if-number-host.false (sym (c.has_none_to_cancel.ensures t.course k.keeps) ∙ c.if-has_none_to_cancel.true))

pub returns-clause-takes : goal.returns-clause-takes
returns-clause-takes c t k =
    let some = sym (c.has_none_to_cancel.ensures t.course k.keeps) ∙ c.if-has_none_to_cancel.false in
    takes_in_turn (Cancel c.args.side c.args.number) (sym (c.is_closed.ensures t k) ∙ c.if-is_closed.false)
    (cancels c.args.side c.args.number k c.if-host-eq0.false c.if-number-host.false some (c.take_back.ensures.hosts t k (is_not_asked c.args.side t.course some)))
