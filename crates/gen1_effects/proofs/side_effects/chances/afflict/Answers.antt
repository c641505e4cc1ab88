use Rattle.std.proofs.Common.{sym, ◌∙◌}
use Rattle.gen1_machine.specs.Ruling.{ruling_of}
use Rattle.gen1_effects.proofs.SideEffects.{frozen, inflicted}
use Rattle.gen1_effects.proofs.side_effects.chances.afflict.Goals as goal

pub returns-then-is_freeze-clause-shown : goal.returns-then-is_freeze-clause-shown
returns-then-is_freeze-clause-shown t c count g p h =
    rw (frozen (ruling_of g.setting.terms) c.args.side c.args.kind (sym c.is_freeze.ensures ∙ c.if-is_freeze.true)) (c.freeze.ensures.shown g p h)

pub returns-clause-shown : goal.returns-clause-shown
returns-clause-shown t c count g p h =
    rw (inflicted (ruling_of g.setting.terms) c.args.side c.args.kind (sym c.is_freeze.ensures ∙ c.if-is_freeze.false))
    ((rw c.other.ensures at c.inflict.ensures.shown) count g p h)
