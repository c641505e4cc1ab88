use Rattle.std.proofs.Common.{refl, ◌∙◌}
use Rattle.gen1_odds.specs.KnockOut.{after_fixed}
use Rattle.gen1_odds.proofs.Counts.{twice_unchanged}
use Rattle.gen1_odds.proofs.knock_outs.fixed_chances.Goals as goal

pub returns : goal.returns
returns c =
    let twice = c.twice_fixed.ensures.is ∙ twice_unchanged (after_fixed c.args.halves c.args.odds.now) c.args.need in
    rw (c.once_fixed.ensures.is, twice, c.fixed_ways-ways.ensures.is) refl
