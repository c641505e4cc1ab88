use Rattle.std.proofs.Common.{ap, arith, sym, ℕ, ◌+◌, ◌-◌, ◌∙◌, ◌≡◌}
use Rattle.std.specs.List.{range_with_len, sum_by}
use Rattle.gen1_odds.specs.KnockOut.{after_change, after_fixed_use, taken, two_uses}
use Rattle.gen1_odds.proofs.Counts.{range_more}
use Rattle.gen1_odds.proofs.fixed_uses.thrice_ranged.Goals as goal

pub loop-step-preserved : goal.loop-step-preserved
loop-step-preserved c =
    let u = c.args.uses.now in
    let between = c.args.between.now in
    let after : ℕ → ℕ = λ left. after_change u.most between.after_first (two_uses (after_fixed_use u) u.most between.after_second) left in
    let hurt : ℕ → ℕ = λ damage. after (c.args.need - taken u.halves c.args.need damage) in
    let step = c.loop-step.step in
    let so_far = c.loop-step.invariant in
    let damage : c.saturating_add-damage.result ≡ u.odds.least + step = omega arith in
    let took = c.taken.ensures ∙ ap (taken u.halves c.args.need) damage in
    let left = c.saturating_sub-left.ensures ∙ ap (λ (n : ℕ). c.args.need - n) took in
    let new : c.twice_after-hit.result ≡ hurt (u.odds.least + step) = c.twice_after-hit.ensures.is ∙ ap after left in (
      ap (λ (n : ℕ). n + c.twice_after-hit.result) so_far.0
          ∙ ap (λ (n : ℕ). sum_by hurt (range_with_len u.odds.least step) + n) new
          ∙ sym (range_more hurt u.odds.least step),
      omega (arith, so_far.1, c.twice_after-hit.ensures.most),
    )
