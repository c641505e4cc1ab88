use Rattle.std.proofs.Common.{rules, ◌+◌}
use Rattle.std.proofs.lemmas.List.FromFn.{fill_by_all}
use Rattle.gen1_hits.specs.DamageNumbers.{varied}
use Rattle.gen1_hits.proofs.damage_formula.at_factors.Goals as goal

pub returns : goal.returns
returns c = fill_by_all (λ k. varied (217 + k) c.args.damage) c.loop-place.entry-items 39 0 c.loop-place.invariant.0 (search rules)
