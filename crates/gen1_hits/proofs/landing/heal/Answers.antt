use Rattle.std.proofs.Common.{ap, arith, min, sym, ℕ, ◌+◌, ◌≡◌}
use Rattle.gen1_machine.specs.State.{healed_by, member_in}
use Rattle.gen1_layout.proofs.Steps.{member_ok}
use Rattle.gen1_hits.proofs.landing.heal.Goals as goal

pub returns : goal.returns
unfolding healed_by
returns c =
    record {
      stands = λ g f h.
          let m = member_in c.args.side f in
          let hp = c.hp.ensures.stands g f h in
          let most = c.max_hp-most.ensures.stands g f h in
          let bound = (member_ok c.args.side h).numbers.max in
          let healed : c.min.result ≡ min m.max (m.hp + c.args.amount) = omega arith in
          c.put_hp.ensures.stands g f (healed_by c.args.amount) h (ap (λ (k : ℕ). record m { hp = k }) (sym healed)) (omega arith);
    }
