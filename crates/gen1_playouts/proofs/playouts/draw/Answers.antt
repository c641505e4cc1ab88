use Rattle.std.proofs.Common.{inl}
use Rattle.gen1_playouts.proofs.Playing.{drawn-alike}
use Rattle.gen1_playouts.proofs.playouts.draw.Goals as goal

pub returns-then-by_weights : goal.returns-then-by_weights
returns-then-by_weights c s h going bench = c.draw_by_weights.ensures s h going (c.offered_mask-mask.ensures.stands s h bench)

pub returns : goal.returns
returns c s h going bench =
    drawn-alike c.args.bench.now.side s c.args.options.now.weights c.offered_mask-mask.result _ h.valid going (c.offered_mask-mask.ensures.stands s h bench)
    (inl (c.requires.none c.if-by_weights.false)) c.pick.ensures.drawn
