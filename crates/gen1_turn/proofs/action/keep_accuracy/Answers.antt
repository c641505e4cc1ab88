use Rattle.std.proofs.Common.{if◌then◌else◌, unwrap_or, ◌||◌, ◌≡◌}
use Rattle.gen1_layout.proofs.Words.{Action, Bool, Option, active_in, ap, false, is_some, on_active, put_on_active, refl, seeing, sym, true, underway_in, ℕ, ◌∙◌}
use Rattle.gen1_machine.specs.Action.{accuracy_to_keep, keep_accuracy}
use Rattle.gen1_machine.specs.State.{with_kept_accuracy}
use Rattle.gen1_turn.proofs.action.keep_accuracy.Goals as goal

pub returns-then-keeps_accuracy : goal.returns-then-keeps_accuracy
unfolding keep_accuracy with_kept_accuracy
returns-then-keeps_accuracy c = record {
  shown = λ g p events stopped tested h.
      let s = c.args.side in
      let old = (active_in s p.field).kept_accuracy in
      let keeps : ((underway_in s p.field).rage || is_some (underway_in s p.field).thrash) ≡ true = sym (c.keeps_accuracy.ensures.stands _ _ h.within) ∙ c.if-keeps_accuracy.true in
      let byte = c.accuracy_to_keep-byte.ensures.stands _ _ h.within
      ∙ ap (λ (t : Option ℕ). unwrap_or t old) (sym (ap (λ (a : Action). a.accuracy_tested) h.action ∙ tested))
      ∙ ap (λ (b : Bool). if b then unwrap_or p.action.accuracy_tested old else 0) (sym keeps) in
      seeing (accuracy_to_keep s) (λ (b : ℕ). on_active s (with_kept_accuracy b)) byte
      (put_on_active h s (with_kept_accuracy c.accuracy_to_keep-byte.result) (c.put_kept_accuracy.ensures.stands _ _ (with_kept_accuracy c.accuracy_to_keep-byte.result) h.within refl));
}

pub returns : goal.returns
unfolding keep_accuracy with_kept_accuracy
returns c = record {
  shown = λ g p events stopped tested h.
      let s = c.args.side in
      let old = (active_in s p.field).kept_accuracy in
      let ends : ((underway_in s p.field).rage || is_some (underway_in s p.field).thrash) ≡ false = sym (c.keeps_accuracy.ensures.stands _ _ h.within) ∙ c.if-keeps_accuracy.false in
      let none = ap (λ (b : Bool). if b then unwrap_or p.action.accuracy_tested old else 0) (sym ends) in
      seeing (accuracy_to_keep s) (λ (b : ℕ). on_active s (with_kept_accuracy b)) none
      (put_on_active h s (with_kept_accuracy 0) (c.put_kept_accuracy-2.ensures.stands _ _ (with_kept_accuracy 0) h.within refl));
}
