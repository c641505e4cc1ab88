use Rattle.gen1_layout.proofs.Words.{Active, ActiveConditions, Field, Option, Some, Within, active_in, active_ok, ap, arith, changed_conditions, conditions_in, put_on_conditions, subst, sym, ℕ, ◌∙◌}
use Rattle.gen1_machine.specs.Conditions.{with_trapping_one_less}
use Rattle.gen1_machine.specs.Valid.{IsCount}
use Rattle.gen1_status.proofs.Statuses.{changed_active-same}
use Rattle.gen1_multiturn.proofs.Underways.{beside-trapping, less_trapping, none_trapping}
use Rattle.gen1_multiturn.proofs.moves.going_on.trap_one_turn_less.Goals as goal

pub returns-in-Some : goal.returns-in-Some
returns-in-Some c = record {
  shown = λ events g p h.
      let s = c.args.side in
      let now = conditions_in s p.field in
      let is = sym (c.trapping.ensures.stands _ _ h.within) ∙ c.in-Some.is in
      let ok = (active_ok s h.within).conditions.underway in
      let known = subst (λ (o : Option ℕ). IsCount 0 4 o) is ok.trapping in
      let less = less_trapping now c.in-Some.turns is
      ∙ ap (λ (n : ℕ). record now { underway = record now.underway { trapping = Some n } }) (sym c.saturating_sub.ensures) in
      let alone = beside-trapping now.underway c.in-Some.turns ok is in
      put_on_conditions h s with_trapping_one_less
      (c.put_trapping.ensures.stands _ _ with_trapping_one_less h.within less (omega (arith, known.1, c.saturating_sub.ensures)) alone.0 alone.1);
}

pub returns-in-None : goal.returns-in-None
unfolding changed_conditions
returns-in-None c = record {
  shown = λ events g p h.
      let s = c.args.side in
      let is = sym (c.trapping.ensures.stands _ _ h.within) ∙ c.in-None.is in
      let same = changed_active-same s (λ (a : Active). record a { conditions = with_trapping_one_less a.conditions }) p.field
      (ap (λ (x : ActiveConditions). record (active_in s p.field) { conditions = x }) (none_trapping (conditions_in s p.field) is)) in
      put_on_conditions h s with_trapping_one_less (subst (λ (f : Field). Within g.setting c.args.battle.now f) (sym same) h.within);
}
