use Rattle.std.proofs.Common.{lit≤, refl, ◌∙◌}
use Rattle.gen1_machine.specs.State.{member_at, party}
use Rattle.gen1_layout.proofs.Steps.{first_written, sent_written}
use Rattle.gen1_layout.specs.Shows.{sent_as}
use Rattle.gen1_layout.proofs.packed.Packed.put_sent_out.Goals as goal

pub returns : goal.returns
returns c =
    record {
      stands = λ g f change halved quartered h makes low high stats.
          let new = sent_as c.args.place c.args.first c.args.second halved quartered in
          let m = member_at c.args.place (party c.args.side f) in
          sent_written c.args.side change new _ h makes low high (rw (c.copy_from_slice.ensures.after ∙ c.sent_block.ensures m halved quartered stats) refl)
          (record {
            stages = record { attack = lit≤ tt; defense = lit≤ tt; speed = lit≤ tt; special = lit≤ tt; accuracy = lit≤ tt; evasion = lit≤ tt };
            current_move = tt;
            picked_move = tt;
            kept_accuracy = lit≤ tt;
            conditions = record { underway = record { bide = tt; thrash = tt; trapping = tt; alone = lit≤ tt }; confused = tt; substitute = tt; bad_poison = tt; disabled = tt };
          });
      begins = λ g f change halved quartered h makes low stats.
          let m = member_at c.args.place (party c.args.side f) in
          first_written c.args.side change (sent_as c.args.place c.args.first c.args.second halved quartered) _ h makes low
          (rw (c.copy_from_slice.ensures.after ∙ c.sent_block.ensures m halved quartered stats) refl);
    }
