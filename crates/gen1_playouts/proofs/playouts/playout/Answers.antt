use Rattle.std.proofs.Common.{arith, refl}
use Rattle.gen1_playouts.proofs.Playing.{plays-more, plays-none}
use Rattle.gen1_playouts.proofs.playouts.playout.Goals as goal

pub rounds-init : goal.rounds-init
rounds-init c = (refl, λ s h. (plays-none c.args.options.now s _ refl, c.new-random.ensures))

pub rounds-preserved : goal.rounds-preserved
rounds-preserved c = (
  omega (arith, c.count.ensures.total, c.rounds.invariant.0),
  λ s h.
      let before = c.rounds.invariant.1 s h in
      plays-more before.0 before.1 (c.end_of-end.ensures.ends s h) (c.end_of-end.ensures.played s h) c.count.ensures.counts,
)
