use Rattle.gen1_layout.proofs.Words.{active_holds, active_ok, active_written, refl, ◌∙◌}
use Rattle.gen1_layout.proofs.packed.Packed.put_accuracy.Goals as goal

pub returns : goal.returns
returns c =
    record {
      stands = λ g f change h makes ok.
          let old = active_ok c.args.side h in
          let block = c.active_mut.ensures.value ∙ active_holds h c.args.side in
          active_written c.args.side change _ _ h makes (rw (block) refl) refl (record { stages = record { attack = old.stages.attack; defense = old.stages.defense; speed = old.stages.speed; special = old.stages.special; accuracy = ok; evasion = old.stages.evasion }; current_move = old.current_move; picked_move = old.picked_move; kept_accuracy = old.kept_accuracy; conditions = old.conditions });
    }
