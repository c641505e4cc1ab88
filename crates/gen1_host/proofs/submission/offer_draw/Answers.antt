use Rattle.std.proofs.Common.{ap, sym, ◌∙◌}
use Rattle.gen1_machine.specs.Numbers.{side_number}
use Rattle.gen1_host.specs.Table.{OfferDraw}
use Rattle.gen1_host.proofs.Calls.{accepts, makes_offer}
use Rattle.gen1_host.proofs.Tables.{takes_in_turn, takes_over}
use Rattle.gen1_host.proofs.submission.offer_draw.Goals as goal

pub returns-then-is_closed-clause-takes : goal.returns-then-is_closed-clause-takes
returns-then-is_closed-clause-takes c t k = takes_over (OfferDraw c.args.side) k (sym (c.is_closed.ensures t k) ∙ c.if-is_closed.true)

pub returns-then-host-number-clause-takes : goal.returns-then-host-number-clause-takes
returns-then-host-number-clause-takes c t k =
    takes_in_turn (OfferDraw c.args.side) (sym (c.is_closed.ensures t k) ∙ c.if-is_closed.false)
    (accepts c.args.side c.number.result (c.number.ensures ∙ ap side_number c.other.ensures) k c.if-host-number.true)

pub returns-clause-takes : goal.returns-clause-takes
returns-clause-takes c t k =
    takes_in_turn (OfferDraw c.args.side) (sym (c.is_closed.ensures t k) ∙ c.if-is_closed.false)
    (makes_offer c.args.side c.number-host.result c.number.result c.number-host.ensures (c.number.ensures ∙ ap side_number c.other.ensures) k c.if-host-number.false)
