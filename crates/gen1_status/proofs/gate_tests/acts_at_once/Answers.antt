use Rattle.gen1_layout.proofs.Steps.{member_ok}
use Rattle.gen1_machine.specs.State.{status_in}
use Rattle.gen1_layout.proofs.Words.{Bool, List, Side, [], ap, false, is_some, refl, sym, true, underway_in, ℕ, ◌∙◌}
use Rattle.std.proofs.Common.{get_or, not, ◌∷◌, ◌≡◌}
use Rattle.gen1_status.proofs.Told.{free-is}
use Rattle.gen1_status.proofs.gate_tests.acts_at_once.Goals as goal

not-so : (b : Bool) → not b ≡ true → b ≡ false
not-so false e = refl
not-so true e = cc

pub returns : goal.returns
returns c = record {
  stands = λ g f h e.
      let s = c.args.side in
      let foe = ap (λ (s : Side). is_some (underway_in s f).trapping) c.other.ensures in
      let byte = ap (λ (l : List ℕ). get_or l 14 0) (c.member_out.ensures.stands g f h) in
      let keeps = c.keeps_from_acting.ensures g.terms.rules (status_in s f) (member_ok s h).status byte in
      record {
        free = free-is c.args.side f (sym (c.is_on.ensures.stands 2 refl g f h ∙ foe) ∙ c.if-is_on.false)
            (sym (c.has_any.ensures.stands (3 ∷ 6 ∷ 10 ∷ 16 ∷ []) refl g f h) ∙ c.if-has_any.false);
        able = sym keeps ∙ c.if-keeps_from_acting.false;
        busy = sym c.is_idle.ensures ∙ not-so c.is_idle.result e;
      };
}
