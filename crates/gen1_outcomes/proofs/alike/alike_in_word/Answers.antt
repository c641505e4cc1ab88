use Rattle.std.proofs.Common.{arith, ℕ, Bool, ap, sym, cond, ◌≡◌, ◌==◌, ◌∙◌, ◌+◌}
use Rattle.std.specs.Int.{bit_at}
use Rattle.gen1_outcomes.specs.Bytes.{alike_in, told}
use Rattle.gen1_outcomes.proofs.Sets.{keeps_more, keeps_zeros, none_kept}
use Rattle.std.proofs.lemmas.Nat.Bits.{shr_and_one}
use Rattle.gen1_outcomes.proofs.alike.alike_in_word.Goals.{then-word-place-eq0, else-word-place-eq0}
use Rattle.gen1_outcomes.proofs.alike.alike_in_word.Goals as goal

pub bits-init : goal.bits-init
bits-init c = keeps_zeros c.args.damage_classes c.args.look c.args.byte c.args.base c.args.word (omega arith)

pub bits-preserved : goal.bits-preserved
bits-preserved c =
    let kept = bit_at c.bits.kept c.bits.place in
    let same : cond c.if-word-place-eq0.stays kept 0 ≡ cond (alike_in c.args.damage_classes c.args.look c.args.byte (c.args.base + c.bits.place)) kept 0 =
    elim c.if-word-place-eq0.branch [
      | then-word-place-eq0 w ↦
          none_kept c.if-word-place-eq0.stays (alike_in c.args.damage_classes c.args.look c.args.byte (c.args.base + c.bits.place)) kept
          (c.bits.invariant.above c.bits.place (omega arith) (omega arith) ∙ sym (shr_and_one c.args.word c.bits.place) ∙ w.if-word-place-eq0.true)
      | else-word-place-eq0 w ↦
          ap (λ (b : Bool). cond b kept 0)
          (w.stays-is ∙ ap (λ (n : ℕ). n == w.told.result) c.told-seen.ensures.value ∙ ap (λ (n : ℕ). told c.args.damage_classes c.args.look c.args.byte == n) w.told.ensures.value)
    ]
    in
    keeps_more c.args.damage_classes c.args.look c.args.byte c.args.base c.args.word c.bits.place c.bits.kept c.kept_if-kept.result c.bits.invariant (omega arith)
    (c.kept_if-kept.ensures.here ∙ same) c.kept_if-kept.ensures.others
