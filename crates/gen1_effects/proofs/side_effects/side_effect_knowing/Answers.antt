use Rattle.std.proofs.Common.{ap, sym, ◌∙◌}
use Rattle.gen1_machine.specs.Moves.{move_at}
use Rattle.gen1_machine.specs.Ruling.{ruling_of}
use Rattle.gen1_hits.specs.Knowing.{knowing}
use Rattle.gen1_hits.proofs.Knowledge.{plain_still}
use Rattle.gen1_effects.specs.declared.side_effects.Way.TheVariants as ways
use Rattle.gen1_effects.specs.SideEffects.{way_of}
use Rattle.gen1_effects.proofs.SideEffects.{side_effect-by}
use Rattle.gen1_effects.proofs.side_effects.side_effect_knowing.Goals as goal

pub returns-in-Confuse-clause-shown : goal.returns-in-Confuse-clause-shown
returns-in-Confuse-clause-shown t c since g p h =
    let move = move_at c.args.id in
    let is = sym c.in-Confuse.is ∙ c.way_of.ensures ∙ ap way_of c.effect.ensures in
    rw (side_effect-by (ruling_of g.setting.terms) c.args.side move move.effect (ways.Confuse c.in-Confuse.bound) is)
    (c.may_confuse.ensures.shown since (knowing c.args.known.now g) p h)

pub returns-in-Disable-clause-shown : goal.returns-in-Disable-clause-shown
returns-in-Disable-clause-shown t c since g p h =
    let move = move_at c.args.id in
    let is = sym c.in-Disable.is ∙ c.way_of.ensures ∙ ap way_of c.effect.ensures in
    rw (side_effect-by (ruling_of g.setting.terms) c.args.side move move.effect ways.Disable is) (c.disable.ensures.shown since g p h)

pub returns-in-Recharge-clause-shown : goal.returns-in-Recharge-clause-shown
returns-in-Recharge-clause-shown t c since g p h =
    let move = move_at c.args.id in
    let is = sym c.in-Recharge.is ∙ c.way_of.ensures ∙ ap way_of c.effect.ensures in
    rw (side_effect-by (ruling_of g.setting.terms) c.args.side move move.effect ways.Recharge is)
    (plain_still c.args.known.now g _ c.must_recharge.ensures.shown h)

pub returns-in-Harm-clause-shown : goal.returns-in-Harm-clause-shown
returns-in-Harm-clause-shown t c since g p h =
    let move = move_at c.args.id in
    let is = sym c.in-Harm.is ∙ c.way_of.ensures ∙ ap way_of c.effect.ensures in
    rw (side_effect-by (ruling_of g.setting.terms) c.args.side move move.effect (ways.Harm c.in-Harm.harm) is)
    (c.harm_unless_away.ensures.shown since (knowing c.args.known.now g) p h)
