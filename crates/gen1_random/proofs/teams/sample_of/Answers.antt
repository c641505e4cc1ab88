use Rattle.std.proofs.Common.{ap, arith, ℕ, ◌+◌, ◌-◌, ◌∙◌, ◌≡◌}
use Rattle.gen1_random.proofs.Drawing.{row-drawn}
use Rattle.gen1_random.specs.declared.teams.Pool.TheVariants.{Samples}
use Rattle.gen1_random.specs.Teams.{numbers_in, sample, sheet_of, taken}
use Rattle.gen1_random.proofs.teams.sample_of.Goals as goal

pub overflow_sub-from : goal.overflow_sub-from
overflow_sub-from c =
    let row = row-drawn c.args.species c.args.random.now.state c.requires in
    let is = c.take-row.ensures.taken ∙ ap (taken c.args.random.now.state) c.numbers-rows.ensures in
    omega (arith, c.from.ensures, is, row.0)

pub sample-requires : goal.sample-requires
sample-requires c =
    let row = row-drawn c.args.species c.args.random.now.state c.requires in
    let is = c.take-row.ensures.taken ∙ ap (taken c.args.random.now.state) c.numbers-rows.ensures in
    omega (arith, c.from.ensures, is, row.0, row.1)

pub returns-clause-sheet : goal.returns-clause-sheet
returns-clause-sheet c =
    let row = row-drawn c.args.species c.args.random.now.state c.requires in
    let is = c.take-row.ensures.taken ∙ ap (taken c.args.random.now.state) c.numbers-rows.ensures in
    let same : c.from.result - 1 + 1 ≡ taken c.args.random.now.state (numbers_in (Samples c.args.species)) = omega (arith, c.from.ensures, is, row.0) in
    c.sample.ensures ∙ ap (λ (n : ℕ). sheet_of (sample n)) same
