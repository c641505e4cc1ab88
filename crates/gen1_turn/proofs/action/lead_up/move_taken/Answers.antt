use Rattle.std.proofs.Common.{◌≡◌}
use Rattle.gen1_layout.proofs.Words.{IsBetween, active_in, ap, length, member_in, subst, sym, ℕ, ◌∙◌}
use Rattle.gen1_machine.specs.declared.side.UsedMove.{UsedMove}
use Rattle.gen1_machine.specs.Picks.{number_in, used_by}
use Rattle.gen1_machine.specs.Valid.{IsUsedMove}
use Rattle.gen1_turn.proofs.Turns.{made, some_made}
use Rattle.gen1_turn.proofs.action.lead_up.move_taken.Goals as goal

pub returns-in-Some : goal.returns-in-Some
returns-in-Some c =
    record {
      stands = λ g f h used number.
          let same : c.used_by-used.result ≡ used_by c.args.pick (active_in c.args.side f).current_move = c.used_by-used.ensures.stands _ _ h in
          let n = c.number_of.ensures.stands _ _ h (subst (λ (u : UsedMove). IsUsedMove (length (member_in c.args.side f).moves) u) (sym same) used) in
          made _ _ (sym c.new.ensures ∙ c.in-Some.is) ∙ n ∙ ap (λ (u : UsedMove). number_in u (member_in c.args.side f).moves) same;
    }

pub returns-in-None : goal.returns-in-None
returns-in-None c =
    record {
      stands = λ g f h used number.
          let same : c.used_by-used.result ≡ used_by c.args.pick (active_in c.args.side f).current_move = c.used_by-used.ensures.stands _ _ h in
          let n = c.number_of.ensures.stands _ _ h (subst (λ (u : UsedMove). IsUsedMove (length (member_in c.args.side f).moves) u) (sym same) used) in
          let is = n ∙ ap (λ (u : UsedMove). number_in u (member_in c.args.side f).moves) same in
          absurd (some_made c.number_of.result (subst (λ (k : ℕ). IsBetween 1 165 k) (sym is) number) (sym c.new.ensures ∙ c.in-None.is));
    }
