use Rattle.std.proofs.Common.{ap, arith, inl, inr, length, refl, slice_index, sym, ℕ, ◌%◌, ◌+◌, ◌-◌, ◌<◌, ◌≡◌, ◌∙◌, ◌≢◌, ◌≤◌}
use Rattle.std.proofs.Math.Nat.{mod-lt}
use Rattle.std.proofs.lemmas.List.{get_or_default}
use Rattle.gen1_layout.specs.Parts.{joined}
use Rattle.gen1_outcomes.specs.declared.successor.Successor.{Successor}
use Rattle.gen1_outcomes.specs.Middles.{hash_of}
use Rattle.gen1_outcomes.proofs.Lists.{all_taken}
use Rattle.gen1_outcomes.proofs.Table.{IsNext, absent, first_at, first_taken, next_at, next_taken, next_within, other_battle, others_more, past_more}
use Rattle.gen1_outcomes.proofs.merging.find.Goals.{else-number-successors-via-else-number-successors, else-number-successors-via-then-number-successors+else-are_equal, else-slot-table, then-slot-table}
use Rattle.gen1_outcomes.proofs.merging.find.Goals as goal

within : (n m : ℕ) → n ≢ 0 → n ≤ m → n - 1 < m
within n m some most = omega (arith, some, most)

-- The hash is a large term, so arithmetic is kept apart from it.
pub returns-then-are_equal-clause-place : goal.returns-then-are_equal-clause-place
returns-then-are_equal-clause-place c =
    let inside = within _ _ c.if-number-eq0.false c.if-number-successors.true in
    (inside, λ none. ap (λ (x : Successor). joined x.battle) (get_or_default c.args.successors.now _ none _ inside) ∙ c.if-are_equal.ensures.same refl)

pub returns-clause-place : goal.returns-clause-place
returns-clause-place c =
    all_taken c.args.table.now c.slots.slot c.slots.counter (omega (arith, c.slots-test.false, c.slots.auto.counter-end)) c.slots.invariant.within c.slots.invariant.taken

beyond : (n m k : ℕ) → n ≡ k + 1 → k < m → m < n → ⊥
beyond n m k e lt more = omega (arith, e, lt, more)

pub slots-init : goal.slots-init
slots-init c =
    record {
      within = mod-lt c.hash.result (grind (arith, c.is_empty.ensures, c.if-is_empty.false));
      taken = first_taken c.args.table.now _;
      at = first_at (length c.args.table.now) c.hash.result ∙ ap (λ (h : ℕ). (h + 0) % length c.args.table.now) c.hash.ensures.value;
      past = λ j lt. absurd (omega (arith, lt));
      others = λ j lt k other inside is. absurd (omega (arith, lt));
    }

pub returns-then-number-eq0-clause-new : goal.returns-then-number-eq0-clause-new
returns-then-number-eq0-clause-new c are =
    record {
      steps = c.slots.counter;
      few = c.slots-test.true;
      here = sym c.slots.invariant.at;
      past = c.slots.invariant.past;
      absent = absent c.args.table.now c.args.successors.now c.args.battle.now c.slots.counter (length c.args.successors.now) are
          (sym (ap (slice_index c.args.table.now) c.slots.invariant.at) ∙ c.if-number-eq0.true) c.slots.invariant.past c.slots.invariant.others;
    }

pub slots-preserved : goal.slots-preserved
slots-preserved c =
    let table = c.args.table.now in
    let xs = c.args.successors.now in
    let battle = c.args.battle.now in
    let step : IsNext (length table) c.slots.slot c.if-slot-table.slot =
    elim c.if-slot-table.branch [
      | then-slot-table w ↦ inl (w.if-slot-table.true, w.slot-is)
      | else-slot-table w ↦ inr (w.if-slot-table.false, w.slot-is)
    ]
    in
    record {
      within = next_within (length table) c.slots.slot c.if-slot-table.slot c.slots.invariant.within step;
      taken = next_taken table c.slots.slot c.if-slot-table.slot c.slots.counter c.slots.invariant.within step c.if-number-eq0.false c.slots.invariant.taken;
      at = next_at (length table) (hash_of (joined battle)) c.slots.counter c.slots.slot c.if-slot-table.slot c.slots.invariant.within c.slots.invariant.at step;
      past = past_more table (joined battle) c.slots.counter c.slots.slot c.slots.invariant.at c.if-number-eq0.false c.slots.invariant.past;
      others = others_more table xs battle c.slots.counter c.slots.slot c.slots.invariant.at
          (elim c.else-number-successors.branch [
            | else-number-successors-via-then-number-successors+else-are_equal w ↦
                other_battle xs battle (slice_index table c.slots.slot) w.index-successors-number.result (w.if-are_equal.ensures.differ refl)
            | else-number-successors-via-else-number-successors w ↦
                λ k other inside is. absurd (beyond (slice_index table c.slots.slot) (length xs) k is inside w.if-number-successors.false)
          ])
          c.slots.invariant.others;
    }
