use Rattle.gen1_layout.proofs.Words.{ap, given, goes, ◌∙◌}
use Rattle.gen1_machine.specs.EarlyEffects.{cure_kind, haze_cures, set_skips}
use Rattle.gen1_stats.specs.Members.{sleeps_or_freezes}
use Rattle.gen1_effects.proofs.Passing.{skipped}
use Rattle.gen1_effects.proofs.early_effects.haze.cure.Goals as goal

pub returns-clause-shown : goal.returns-clause-shown
unfolding haze_cures given
returns-clause-shown t c g p h =
    let skips = c.sleeps_or_freezes-known.ensures ∙ ap sleeps_or_freezes (c.status.ensures.stands _ _ h.within) in
    let a = skipped c.sleeps_or_freezes-known.result h in
    let kind = c.kind.ensures.stands _ _ h.within in
    rw (← skips, ← kind) (goes (set_skips c.sleeps_or_freezes-known.result) (cure_kind c.args.side c.kind.result) a (c.cure_kind.ensures.shown _ _ a))
