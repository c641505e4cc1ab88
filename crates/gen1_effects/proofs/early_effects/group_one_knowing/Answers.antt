use Rattle.std.proofs.Common.{ap, sym, ◌∙◌}
use Rattle.gen1_hits.proofs.Knowledge.{does_still, plain_still}
use Rattle.gen1_effects.specs.EarlyEffects.{way_of}
use Rattle.gen1_effects.proofs.LateEffects.{early-by}
use Rattle.gen1_effects.proofs.Failing.{drawn_ended}
use Rattle.gen1_effects.proofs.early_effects.group_one_knowing.Goals as goal

pub returns-in-Fails-clause-shown : goal.returns-in-Fails-clause-shown
returns-in-Fails-clause-shown t c since g p h = rw (early-by c.args.side _ _ _ (sym (c.way_of.ensures ∙ ap way_of c.effect.ensures) ∙ c.in-Fails.is)) (drawn_ended _ (plain_still c.args.known.now g _ c.fail.ensures.shown h))

pub returns-in-Conversion-clause-shown : goal.returns-in-Conversion-clause-shown
returns-in-Conversion-clause-shown t c since g p h = rw (early-by c.args.side _ _ _ (sym (c.way_of.ensures ∙ ap way_of c.effect.ensures) ∙ c.in-Conversion.is)) (plain_still c.args.known.now g _ c.convert.ensures.shown h)

pub returns-in-Mist-clause-shown : goal.returns-in-Mist-clause-shown
returns-in-Mist-clause-shown t c since g p h = rw (early-by c.args.side _ _ _ (sym (c.way_of.ensures ∙ ap way_of c.effect.ensures) ∙ c.in-Mist.is)) (plain_still c.args.known.now g _ c.set_mist.ensures.shown h)

pub returns-in-FocusEnergy-clause-shown : goal.returns-in-FocusEnergy-clause-shown
returns-in-FocusEnergy-clause-shown t c since g p h = rw (early-by c.args.side _ _ _ (sym (c.way_of.ensures ∙ ap way_of c.effect.ensures) ∙ c.in-FocusEnergy.is)) (plain_still c.args.known.now g _ c.set_focus_energy.ensures.shown h)

pub returns-in-Screen-clause-shown : goal.returns-in-Screen-clause-shown
returns-in-Screen-clause-shown t c since g p h = rw (early-by c.args.side _ _ _ (sym (c.way_of.ensures ∙ ap way_of c.effect.ensures) ∙ c.in-Screen.is)) (plain_still c.args.known.now g _ c.set_screen.ensures.shown h)

pub returns-in-Haze-clause-shown : goal.returns-in-Haze-clause-shown
returns-in-Haze-clause-shown t c since g p h = rw (early-by c.args.side _ _ _ (sym (c.way_of.ensures ∙ ap way_of c.effect.ensures) ∙ c.in-Haze.is)) (does_still g _ c.haze.ensures.shown h)

pub returns-in-Confusion-clause-shown : goal.returns-in-Confusion-clause-shown
returns-in-Confusion-clause-shown t c since g p h = rw (early-by c.args.side _ _ _ (sym (c.way_of.ensures ∙ ap way_of c.effect.ensures) ∙ c.in-Confusion.is)) (c.confuse_foe.ensures.shown since g p h)

pub returns-in-Heal-clause-shown : goal.returns-in-Heal-clause-shown
returns-in-Heal-clause-shown t c since g p h = rw (early-by c.args.side _ _ _ (sym (c.way_of.ensures ∙ ap way_of c.effect.ensures) ∙ c.in-Heal.is)) (plain_still c.args.known.now g _ c.heal.ensures.shown h)

pub returns-in-Poison-clause-shown : goal.returns-in-Poison-clause-shown
returns-in-Poison-clause-shown t c since g p h = rw (early-by c.args.side _ _ _ (sym (c.way_of.ensures ∙ ap way_of c.effect.ensures) ∙ c.in-Poison.is)) (c.poison_foe.ensures.shown since g p h)

pub returns-in-Paralysis-clause-shown : goal.returns-in-Paralysis-clause-shown
returns-in-Paralysis-clause-shown t c since g p h = rw (early-by c.args.side _ _ _ (sym (c.way_of.ensures ∙ ap way_of c.effect.ensures) ∙ c.in-Paralysis.is)) (c.paralyse_foe.ensures.shown since g p h)

pub returns-in-LeechSeed-clause-shown : goal.returns-in-LeechSeed-clause-shown
returns-in-LeechSeed-clause-shown t c since g p h = rw (early-by c.args.side _ _ _ (sym (c.way_of.ensures ∙ ap way_of c.effect.ensures) ∙ c.in-LeechSeed.is)) (c.seed_foe.ensures.shown since g p h)

pub returns-in-Splash-clause-shown : goal.returns-in-Splash-clause-shown
returns-in-Splash-clause-shown t c since g p h = rw (early-by c.args.side _ _ _ (sym (c.way_of.ensures ∙ ap way_of c.effect.ensures) ∙ c.in-Splash.is)) (plain_still c.args.known.now g _ c.splash.ensures.shown h)

pub returns-in-Substitute-clause-shown : goal.returns-in-Substitute-clause-shown
returns-in-Substitute-clause-shown t c since g p h = rw (early-by c.args.side _ _ _ (sym (c.way_of.ensures ∙ ap way_of c.effect.ensures) ∙ c.in-Substitute.is)) (drawn_ended _ (plain_still c.args.known.now g _ c.make_substitute.ensures.shown h))
