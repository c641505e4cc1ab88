use Rattle.std.proofs.Common.{List, ap, get_or, refl, sym, ℕ, ◌∙◌}
use Rattle.gen1_machine.specs.State.{status_in}
use Rattle.gen1_layout.proofs.Steps.{member_ok}
use Rattle.gen1_status.proofs.residual_damage.suffers.Goals as goal

pub returns-then-takes_hp : goal.returns-then-takes_hp
returns-then-takes_hp c = record {
  stands = λ g f h.
      let s = c.args.side in
      let byte = ap (λ (l : List ℕ). get_or l 14 0) (c.member_out.ensures.stands g f h) in
      let takes = c.takes_hp.ensures g.terms.rules (status_in s f) (member_ok s h).status byte in
      rw (sym takes ∙ c.if-takes_hp.true) refl;
}

pub returns : goal.returns
returns c = record {
  stands = λ g f h.
      let s = c.args.side in
      let byte = ap (λ (l : List ℕ). get_or l 14 0) (c.member_out.ensures.stands g f h) in
      let takes = c.takes_hp.ensures g.terms.rules (status_in s f) (member_ok s h).status byte in
      rw (sym takes ∙ c.if-takes_hp.false) (c.is_on.ensures.stands 12 refl g f h);
}
