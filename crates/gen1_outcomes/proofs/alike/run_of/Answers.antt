use Rattle.std.proofs.Common.{ap, arith, inl, inr, nat_le, sym, ◌&&◌, ◌*◌, ◌+◌, ◌/◌, ◌∙◌, ℕ}
use Rattle.gen1_outcomes.specs.Bytes.{last_factor}
use Rattle.gen1_outcomes.proofs.Runs.{begins_as, few_classes, first_most, run_below, run_from}
use Rattle.gen1_outcomes.proofs.alike.run_of.Goals.{else-class-eq0, then-class-eq0}
use Rattle.gen1_outcomes.proofs.alike.run_of.Goals as goal

pub last_of-requires : goal.last_of-requires
last_of-requires c =
    let few = few_classes c.args.damage_classes c.args.damage c.args.part (omega arith) c.requires.damage c.requires.part in
    omega (arith, few, c.class_of-class.ensures)

pub last_of-last-requires : goal.last_of-last-requires
last_of-last-requires c =
    let few = few_classes c.args.damage_classes c.args.damage c.args.part (omega arith) c.requires.damage c.requires.part in
    omega (arith, few, c.class_of-class.ensures)

pub returns-then-part-edge-clause-first : goal.returns-then-part-edge-clause-first
returns-then-part-edge-clause-first c =
    let begins =
    begins_as c.args.damage_classes c.args.damage c.args.part c.class_of-class.result c.if-class-eq0.first c.class_of-class.ensures (elim c.if-class-eq0.branch [
      | then-class-eq0 w ↦ inl (w.if-class-eq0.true, w.first-is)
      | else-class-eq0 w ↦ inr (omega (arith, w.if-class-eq0.false), w.first-is ∙ ap (λ (x : ℕ). x + 1) w.last_of.ensures.value)
    ])
    in
    let most = first_most c.args.damage_classes c.args.damage c.args.part c.if-class-eq0.first (omega arith) c.requires.damage begins in
    omega (arith, most, c.max.ensures, c.if-part-edge.true)

pub returns-then-part-edge-clause-run : goal.returns-then-part-edge-clause-run
returns-then-part-edge-clause-run c other le =
    let begins =
    begins_as c.args.damage_classes c.args.damage c.args.part c.class_of-class.result c.if-class-eq0.first c.class_of-class.ensures (elim c.if-class-eq0.branch [
      | then-class-eq0 w ↦ inl (w.if-class-eq0.true, w.first-is)
      | else-class-eq0 w ↦ inr (omega (arith, w.if-class-eq0.false), w.first-is ∙ ap (λ (x : ℕ). x + 1) w.last_of.ensures.value)
    ])
    in
    let last = c.last_of-last.ensures.value ∙ ap (λ (x : ℕ). c.args.damage * last_factor c.args.damage_classes x / 255) c.class_of-class.ensures in
    run_from c.args.damage_classes c.args.damage c.args.edge c.args.part other c.if-class-eq0.first c.last_of-last.result (omega arith) c.requires.damage c.requires.part le c.if-part-edge.true begins last
    ∙ ap (λ (x : ℕ). nat_le x other && nat_le other c.last_of-last.result) (sym c.max.ensures)

pub returns-else-part-edge-clause-first : goal.returns-else-part-edge-clause-first
returns-else-part-edge-clause-first c =
    let begins =
    begins_as c.args.damage_classes c.args.damage c.args.part c.class_of-class.result c.if-class-eq0.first c.class_of-class.ensures (elim c.if-class-eq0.branch [
      | then-class-eq0 w ↦ inl (w.if-class-eq0.true, w.first-is)
      | else-class-eq0 w ↦ inr (omega (arith, w.if-class-eq0.false), w.first-is ∙ ap (λ (x : ℕ). x + 1) w.last_of.ensures.value)
    ])
    in
    let most = first_most c.args.damage_classes c.args.damage c.args.part c.if-class-eq0.first (omega arith) c.requires.damage begins in
    omega (arith, most)

pub returns-else-part-edge-clause-run : goal.returns-else-part-edge-clause-run
returns-else-part-edge-clause-run c other le =
    let begins =
    begins_as c.args.damage_classes c.args.damage c.args.part c.class_of-class.result c.if-class-eq0.first c.class_of-class.ensures (elim c.if-class-eq0.branch [
      | then-class-eq0 w ↦ inl (w.if-class-eq0.true, w.first-is)
      | else-class-eq0 w ↦ inr (omega (arith, w.if-class-eq0.false), w.first-is ∙ ap (λ (x : ℕ). x + 1) w.last_of.ensures.value)
    ])
    in
    let last = c.last_of-last.ensures.value ∙ ap (λ (x : ℕ). c.args.damage * last_factor c.args.damage_classes x / 255) c.class_of-class.ensures in
    run_below c.args.damage_classes c.args.damage c.args.edge c.args.part other c.if-class-eq0.first c.last_of-last.result (omega arith) c.requires.damage c.requires.part le (omega (arith, c.if-part-edge.false)) begins last
    ∙ ap (λ (x : ℕ). nat_le c.if-class-eq0.first other && nat_le other x) (sym c.min.ensures)
