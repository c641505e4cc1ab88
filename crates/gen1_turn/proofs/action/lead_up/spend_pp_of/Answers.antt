use Rattle.std.proofs.Common.{◌-◌, ◌≤◌}
use Rattle.gen1_layout.proofs.Words.{ap, arith, known_in, member_in, member_ok, put_on_member, refl, subst, sym, ℕ, ◌∙◌}
use Rattle.gen1_stats.specs.Members.{nothing_known}
use Rattle.gen1_machine.specs.declared.side.UsedMove.TheVariants.{Slot}
use Rattle.gen1_machine.specs.State.{with_pp_spent}
use Rattle.gen1_turn.proofs.action.lead_up.spend_pp_of.Goals as goal

pub returns : goal.returns
unfolding with_pp_spent
returns c = record {
  shown = λ told g p fits h.
      let m = member_in c.args.side p.field in
      let ok = (member_ok c.args.side h.within).numbers in
      let slot = c.among_slots-slot.ensures.same (fits.0, omega (arith, ok.slots, fits.1)) in
      let pp = c.pp.ensures.stands _ _ h.within in
      let known = ok.known (c.args.slot - 1) nothing_known (omega (arith, fits.0, fits.1)) in
      let few : c.pp.result ≤ 63 = subst (λ (n : ℕ). n ≤ 63) (sym (pp ∙ ap (λ (k : ℕ). (known_in k m.moves).pp) slot)) known.pp in
      put_on_member h c.args.side (with_pp_spent (Slot c.args.slot)) (c.put_pp.ensures.stands _ _ (with_pp_spent (Slot c.args.slot)) h.within
      (rw (c.less_pp-left.ensures.value, pp, slot) refl) (omega (arith, slot, fits.1)) (c.less_pp-left.ensures.most few));
}
