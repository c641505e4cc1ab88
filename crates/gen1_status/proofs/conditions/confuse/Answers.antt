use Rattle.std.proofs.Common.{◌+◌}
use Rattle.gen1_layout.proofs.Words.{ap, still, ℕ}
use Rattle.gen1_machine.specs.declared.event.Volatile.TheVariants as volatiles
use Rattle.gen1_machine.specs.Conditions.{with_confusion}
use Rattle.gen1_machine.specs.EarlyEffects.{confuse, confused_by}
use Rattle.gen1_machine.specs.Progress.{starts}
use Rattle.gen1_hits.proofs.Knowledge.{drawing_like}
use Rattle.gen1_status.proofs.conditions.confuse.Goals as goal

pub returns-clause-shown : goal.returns-clause-shown
unfolding confuse confused_by
returns-clause-shown t c since g p h =
    drawing_like (confused_by c.args.side) c.draw_as-byte.result h (c.draw_as-byte.ensures.drawn since)
    (λ x is. ap (λ (n : ℕ). starts c.args.side volatiles.Confusion (with_confusion (n + 2))) is) (λ d. still d (c.confuse_by.ensures.shown _ _ d.shows))
