use Rattle.std.proofs.Common.{refl, rules, sym, w8, ◌≡◌, ◌∙◌}
use Rattle.std.proofs.lemmas.Int.{to_z-of_z}
use mir.Val.{SFits}
use Rattle.gen1_machine.specs.CurrentStats.{recomputed_at, unmodified}
use Rattle.gen1_machine.specs.Stages.{now_at}
use Rattle.gen1_machine.specs.State.{active_in, member_in}
use Rattle.gen1_status.proofs.Shifting.{now-recomputed_at, recomputed_at-is}
use Rattle.gen1_status.proofs.stages.recompute.Goals as goal

pub returns : goal.returns
returns c =
    record {
      stands = λ g f h ok.
          let a = active_in c.args.side f in
          let m = member_in c.args.side f in
          let own = c.unmodified-unmodified.ensures.stands g f h in
          let at = c.signed.ensures ok in
          let fits : SFits w8 c.signed.result = search rules in
          let value : c.now.result ≡ now_at (unmodified c.args.stat m) c.args.stage c.args.stat 0 = (simp to_z-of_z at c.now.ensures) ∙ rw (own, at) refl in
          c.put_stage.ensures.stands g f (recomputed_at c.args.stat c.args.stage) 0 h (recomputed_at-is c.args.stat c.args.stage a)
          (λ number. value ∙ sym (now-recomputed_at c.args.stat c.args.stage m a)) ok;
    }
