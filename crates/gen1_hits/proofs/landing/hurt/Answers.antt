use Rattle.std.proofs.Common.{◌-◌, ◌≡◌}
use Rattle.gen1_layout.proofs.Words.{ap, arith, member_in, member_ok, sym, ℕ, ◌∙◌}
use Rattle.gen1_machine.specs.State.{hurt_by}
use Rattle.gen1_hits.proofs.landing.hurt.Goals as goal

pub returns : goal.returns
unfolding hurt_by
returns c =
    record {
      stands = λ g f h.
          let m = member_in c.args.side f in
          let left : c.saturating_sub-left.result ≡ m.hp - c.args.amount =
          c.saturating_sub-left.ensures ∙ ap (λ (k : ℕ). k - c.args.amount) (c.hp.ensures.stands g f h) in
          let whole = (member_ok c.args.side h).numbers.hp in
          c.put_hp.ensures.stands g f (hurt_by c.args.amount) h (ap (λ (k : ℕ). record m { hp = k }) (sym left)) (omega arith);
    }
