use Rattle.gen1_layout.proofs.Words.{active_holds, active_ok, active_written, arith, refl, ◌∙◌}
use Rattle.gen1_layout.proofs.packed.Packed.put_kept_accuracy.Goals as goal

pub returns : goal.returns
returns c =
    record {
      stands = λ g f change h makes.
          let old = active_ok c.args.side h in
          let block = c.active_mut.ensures.value ∙ active_holds h c.args.side in
          active_written c.args.side change _ _ h makes (rw (block) refl) refl (record { stages = old.stages; current_move = old.current_move; picked_move = old.picked_move; kept_accuracy = omega arith; conditions = old.conditions });
    }
