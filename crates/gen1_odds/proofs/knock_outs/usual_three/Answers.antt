use Rattle.std.proofs.Common.{refl, sym, ◌∙◌}
use Rattle.gen1_odds.proofs.knock_outs.usual_three.Goals as goal

pub returns : goal.returns
returns c = rw (sym c.traps.ensures ∙ c.if-traps.false) (rw c.hit_count.ensures at c.three_alike.ensures)
