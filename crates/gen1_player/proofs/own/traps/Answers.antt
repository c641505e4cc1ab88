use Rattle.std.proofs.Common.{refl, sym, ◌∙◌}
use Rattle.gen1_player.proofs.own.traps.Goals as goal

pub returns-then-is_on-clause-stands : goal.returns-then-is_on-clause-stands
returns-then-is_on-clause-stands c g f h = rw (sym (c.is_on.ensures.stands 2 refl g f h) ∙ c.if-is_on.true) refl

pub returns-else-is_on-clause-stands : goal.returns-else-is_on-clause-stands
returns-else-is_on-clause-stands c g f h = rw (sym (c.is_on.ensures.stands 2 refl g f h) ∙ c.if-is_on.false) refl
