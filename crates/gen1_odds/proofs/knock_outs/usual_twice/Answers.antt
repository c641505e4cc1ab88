use Rattle.std.proofs.Common.{Bool, ap, if◌then◌else◌, sym, ◌∙◌}
use Rattle.gen1_odds.specs.KnockOut.{after_usual, no_change, over, two_trapping}
use Rattle.gen1_odds.proofs.Counts.{twice_unchanged}
use Rattle.gen1_odds.proofs.knock_outs.usual_twice.Goals as goal

pub returns : goal.returns
returns c =
    let after = after_usual c.args.count c.args.odds.now in
    c.twice.ensures.is ∙ twice_unchanged after c.args.need
    ∙ sym (ap (λ (traps : Bool). if traps then two_trapping c.args.odds.now 0 no_change c.args.need else after (after over) c.args.need) c.if-traps.false)
