use Rattle.gen1_layout.proofs.Words.{if_not, if_so, stays, sym, ◌∙◌}
use Rattle.gen1_multiturn.proofs.move_hits.hit_effects.explode_if.Goals as goal

pub returns-then-explodes : goal.returns-then-explodes
returns-then-explodes c = record { shown = λ events g p h. if_so _ _ _ (sym c.explodes.ensures ∙ c.if-explodes.true) (c.explode.ensures.shown events g p h) }

pub returns-else-explodes : goal.returns-else-explodes
returns-else-explodes c = record { shown = λ events g p h. if_not _ _ _ (sym c.explodes.ensures ∙ c.if-explodes.false) (stays h) }
