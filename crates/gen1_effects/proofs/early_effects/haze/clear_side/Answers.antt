use Rattle.gen1_machine.specs.Conditions.{after_haze}
use Rattle.gen1_machine.specs.EarlyEffects.{clear_side, with_levelled_stats}
use Rattle.gen1_layout.proofs.Chain.{goes, put_on_active, put_on_conditions}
use Rattle.gen1_effects.proofs.early_effects.haze.clear_side.Goals as goal

pub returns : goal.returns
unfolding clear_side
returns c events g p h =
    let a = put_on_active h c.args.side with_levelled_stats (c.reset_stages.ensures.stands _ _ h.within) in
    goes _ _ a (put_on_conditions a c.args.side after_haze (c.clear_by_haze.ensures.stands _ _ a.within))
