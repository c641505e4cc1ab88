use Rattle.std.proofs.Common.{◌/◌}
use Rattle.gen1_layout.proofs.Words.{Member, ap, ℕ}
use Rattle.gen1_machine.specs.EarlyEffects.{recover}
use Rattle.gen1_machine.specs.Progress.{gain_hp, member}
use Rattle.gen1_effects.proofs.Passing.{seeing_part}
use Rattle.gen1_effects.proofs.early_effects.own_effects.recover.Goals as goal

pub returns-clause-shown : goal.returns-clause-shown
unfolding recover
returns-clause-shown t c g p h =
    seeing_part (member c.args.side) (λ (m : Member). m.max / 2) (gain_hp c.args.side) (ap (λ (most : ℕ). most / 2) (c.max_hp-half.ensures.stands _ _ h.within)) (c.gain_hp.ensures.shown g p h)
