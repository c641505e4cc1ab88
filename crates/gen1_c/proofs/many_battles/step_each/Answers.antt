use Rattle.std.proofs.Common.{ap, arith, length, subst, sym, take, ℕ, ◌+◌, ◌<◌, ◌∙◌}
use Rattle.std.specs.Prelude.{Option, slice_index_or}
use Rattle.gen1_machine.specs.State.{State}
use Rattle.gen1_layout.specs.Shows.{Stands}
use Rattle.gen1_c.specs.Batches.{IsStart, IsStepped, started_again, over_in}
use Rattle.gen1_c.proofs.Updates.{left_more, listed-more, over-more, stepped-from, stepped-here, stepped-more}
use Rattle.gen1_c.proofs.many_battles.step_each.Goals as goal

pub loop-place-preserved : goal.loop-place-preserved
loop-place-preserved c =
    let place = c.loop-place.place in
    let battles = c.loop-place.battles in
    let generators = c.loop-place.generators in
    let updates = c.loop-place.updates in
    let one : place < length battles = omega arith in
    let two : place < length generators = omega (arith, c.requires.generators) in
    let three : place < length updates = omega (arith, c.requires.updates) in
    let old = c.index-battles-place.result in
    let new = c.step_at_random-update.new.battle in
    let after = c.step_at_random-update.new.random.state in
    let done = c.step_at_random-update.result in
    let stepped : (s : State) (start : Option State) → Stands (slice_index_or battles place old) s → IsStart c.args.starts.now place s start
    → IsStepped (started_again start (record { battle = s; random = slice_index_or generators place 0 })) new after done =
    λ s start stands first.
    subst (λ (seed : ℕ). IsStepped (started_again start (record { battle = s; random = seed })) new after done) c.new-random.ensures
    (stepped-from (c.start_again.ensures s start stands first) c.step_at_random-update.ensures.steps) in
    let here = stepped-here c.args.starts.now c.args.battles.now battles c.args.generators.now generators place old new 0 after done one two
    c.loop-place.invariant.1 c.loop-place.invariant.2 stepped in (
      stepped-more c.args.starts.now c.args.battles.now battles c.args.generators.now generators updates place new after done one two three c.loop-place.invariant.0 here,
      left_more c.args.battles.now battles place new c.loop-place.invariant.1,
      left_more c.args.generators.now generators place after c.loop-place.invariant.2,
      ap (λ (n : ℕ). n + c.one_if_over-over.result) c.loop-place.invariant.3
          ∙ ap (λ (n : ℕ). over_in (take place updates) + n) c.one_if_over-over.ensures.value ∙ sym (over-more updates place done three),
      omega (arith, c.loop-place.invariant.4, c.one_if_over-over.ensures.bound),
      listed-more updates place done three c.loop-place.invariant.5 c.step_at_random-update.ensures.listed,
    )

pub returns-clause-steps : goal.returns-clause-steps
returns-clause-steps c i d u s start below stands first = c.loop-place.invariant.0 i d u s start (omega (arith, below)) stands first

pub returns-clause-listed : goal.returns-clause-listed
returns-clause-listed c i u below = c.loop-place.invariant.5 i u (omega (arith, below))
