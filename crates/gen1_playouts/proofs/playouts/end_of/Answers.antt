use Rattle.std.proofs.Common.{subst, sym}
use Rattle.gen1_rolls.specs.Steady.{ring_of}
use Rattle.gen1_engine.specs.Update.{reseeded}
use Rattle.gen1_layout.specs.Parts.{Parts}
use Rattle.gen1_layout.specs.Shows.{Stands}
use Rattle.gen1_playouts.proofs.Playing.{begins-with, plays-round}
use Rattle.gen1_playouts.proofs.playouts.end_of.Goals as goal

pub returns-clause-ends : goal.returns-clause-ends
returns-clause-ends c s h =
    let copied = subst (λ (p : Parts). Stands p s) (sym c.copy_of-copy.ensures) h in
    let stands = begins-with c.new.ensures.start (c.reseed.ensures.stands s) copied in
    (c.ten_numbers.result, c.run.ensures.ends (reseeded (ring_of c.ten_numbers.result) s) stands)

pub returns-clause-played : goal.returns-clause-played
returns-clause-played c s h =
    let copied = subst (λ (p : Parts). Stands p s) (sym c.copy_of-copy.ensures) h in
    let stands = begins-with c.new.ensures.start (c.reseed.ensures.stands s) copied in
    plays-round c.args.options.now s c.args.random.now.state c.ten_numbers.ensures.drawn c.ten_numbers.ensures.state (c.run.ensures.played (reseeded (ring_of c.ten_numbers.result) s) stands)
