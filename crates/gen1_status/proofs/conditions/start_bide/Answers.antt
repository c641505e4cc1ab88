use Rattle.std.proofs.Common.{◌+◌}
use Rattle.gen1_layout.proofs.Words.{ap, still, ℕ}
use Rattle.gen1_machine.specs.declared.event.Volatile.TheVariants as volatiles
use Rattle.gen1_machine.specs.Conditions.{with_bide}
use Rattle.gen1_machine.specs.LateEffects.{bide_for, start_bide}
use Rattle.gen1_machine.specs.Progress.{starts}
use Rattle.gen1_hits.proofs.Knowledge.{drawing_like}
use Rattle.gen1_status.proofs.conditions.start_bide.Goals as goal

pub returns-clause-shown : goal.returns-clause-shown
unfolding start_bide bide_for
returns-clause-shown t c since g p untied h =
    drawing_like (bide_for c.args.side) c.draw_as-byte.result h (c.draw_as-byte.ensures.drawn since)
    (λ x is. ap (λ (n : ℕ). starts c.args.side volatiles.Bide (with_bide (n + 2))) is) (λ d. still d (c.bide_for.ensures.shown _ _ untied d.shows))
