use Rattle.gen1_layout.proofs.Words.{Active, active_holds, active_ok, active_written, ap, member_in, refl, ◌∙◌}
use Rattle.gen1_tables.specs.declared.effect.Stat.TheVariants.{Attack}
use Rattle.gen1_machine.specs.CurrentStats.{now}
use Rattle.gen1_layout.proofs.packed.Packed.put_attack.Goals as goal

pub returns : goal.returns
returns c =
    record {
      stands = λ g f change penalties h makes is ok.
          let old = active_ok c.args.side h in
          let block = c.active_mut-active.ensures.value ∙ active_holds h c.args.side in
          let value = is ∙ ap (λ (a : Active). now Attack (member_in c.args.side f) a) makes in
          active_written c.args.side change _ _ h makes (rw (c.write_u16.ensures, value, block) refl) refl (record { stages = record { attack = ok; defense = old.stages.defense; speed = old.stages.speed; special = old.stages.special; accuracy = old.stages.accuracy; evasion = old.stages.evasion }; current_move = old.current_move; picked_move = old.picked_move; kept_accuracy = old.kept_accuracy; conditions = old.conditions });
    }
