use Rattle.std.proofs.Common.{sym, ◌∙◌}
use Rattle.gen1_machine.specs.declared.side.Choice.TheVariants.{Pass}
use Rattle.gen1_room.proofs.Ending.{not_refused, opens_later, opens_now, unbegun_offers}
use Rattle.gen1_room.proofs.submission.start.Goals as goal

pub returns-then-not-has_not_begun-clause-opens : goal.returns-then-not-has_not_begun-clause-opens
returns-then-not-has_not_begun-clause-opens c s h =
    opens_later s c.args.battle.now c.args.log.now.items h (sym (c.has_not_begun.ensures.turn s h) ∙ c.if-not-has_not_begun.true) c.requires.empty

pub returns-clause-opens : goal.returns-clause-opens
returns-clause-opens c s h =
    opens_now s c.args.battle.now c.update_events.new.self c.args.events.now c.update_events.new.events c.write_log.new.log c.in-Ok.field-0 h
    (sym (c.has_not_begun.ensures.turn s h) ∙ c.if-not-has_not_begun.false)
    (c.in-Ok.ensures.answers s h) (c.in-Ok.ensures.tells s h) c.write_log.ensures

pub unreachable-requires : goal.unreachable-requires
unreachable-requires c =
    let m = c.has_not_begun.ensures.valid in
    let zero = sym (c.has_not_begun.ensures.turn m.state m.stands) ∙ c.if-not-has_not_begun.false in
    not_refused m.state Pass Pass c.args.battle.now c.update_events.new.self c.in-Err.field-0 (unbegun_offers m.state m.stands zero) (c.in-Err.ensures.answers m.state m.stands)
