use Rattle.std.proofs.Common.{arith, length, rules, slice_set, subst, sym, ℕ, ◌+◌, ◌<◌, ◌∙◌, ◌≡◌}
use Rattle.std.proofs.lemmas.List.{length-set}
use Rattle.gen1_odds.specs.KnockOut.{IsKnown, after_usual, over}
use Rattle.gen1_odds.proofs.Counts.{known_more}
use Rattle.gen1_odds.proofs.usual_uses.known_once.Goals as goal

pub loop-need-init : goal.loop-need-init
loop-need-init c = (search rules, λ need below. absurd (omega (arith, below)))

pub loop-need-preserved : goal.loop-need-preserved
loop-need-preserved c =
    let ways = after_usual c.args.count c.args.odds.now over in
    let so_far = c.loop-need.invariant in
    let known = c.loop-need.known in
    let inside : c.loop-need.need < length known = omega (arith, so_far.0, c.requires.room) in
    let more = known_more ways 20447232 known c.loop-need.need c.once.result inside so_far.1 c.once.ensures.is c.once.ensures.most in (
      length-set known c.from.result c.once.result ∙ so_far.0,
      subst (λ (n : ℕ). IsKnown ways 20447232 (slice_set known n c.once.result) (c.loop-need.need + 1)) (sym c.from.ensures) more,
    )

pub returns : goal.returns
returns c =
    let all : c.loop-need.need ≡ c.args.filled = omega arith in
    subst (λ (n : ℕ). IsKnown (after_usual c.args.count c.args.odds.now over) 20447232 c.loop-need.known n) all c.loop-need.invariant.1
