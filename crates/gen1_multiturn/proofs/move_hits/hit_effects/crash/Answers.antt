use Rattle.gen1_layout.proofs.Words.{goes, if_not, if_so, put_damage, stays, sym, ◌∙◌}
use Rattle.gen1_machine.specs.ManyHits.{crash}
use Rattle.gen1_multiturn.proofs.move_hits.hit_effects.crash.Goals as goal

pub returns-then-not-crashes-clause-shown : goal.returns-then-not-crashes-clause-shown
returns-then-not-crashes-clause-shown t c g p h = if_not _ _ _ (sym c.crashes.ensures ∙ c.if-not-crashes.true) (stays h)

pub returns-clause-shown : goal.returns-clause-shown
unfolding crash
returns-clause-shown t c g p h =
    let a = c.lose_hp.ensures.shown g p h in
    if_so _ _ _ (sym c.crashes.ensures ∙ c.if-not-crashes.false) (goes _ _ a (put_damage a 1 (c.put_last_damage.ensures.stands _ _ a.within)))
