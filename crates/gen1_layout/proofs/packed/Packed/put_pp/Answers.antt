use Rattle.gen1_layout.proofs.Words.{member_in, member_ok, refl, ◌∙◌}
use Rattle.std.proofs.Common.{length-set, set, ◌+◌, ◌-◌}
use Rattle.gen1_layout.proofs.Views.{refill-same}
use Rattle.gen1_layout.proofs.Steps.{pp_block, pp_ok, with_pp}
use Rattle.gen1_machine.specs.Layout.{member_block}
use Rattle.gen1_layout.proofs.Out.{out_written}
use Rattle.gen1_layout.proofs.packed.Packed.put_pp.Goals as goal

pub returns : goal.returns
returns c =
    record {
      stands = λ g f change h makes inside small.
          let packed = c.member_out_mut.ensures.packed in
          let block = c.member_out_mut.ensures.stands g f h in
          let m = member_in c.args.side f in
          let low = c.requires.low in
          let long = refill-same 24 (member_block m) (set c.member_out_mut.result.now (c.args.slot + 18) c.args.pp) (length-set c.member_out_mut.result.now (c.args.slot + 18) c.args.pp ∙ c.member_out_mut.ensures.len) in
          out_written h c.args.side change (with_pp c.args.slot c.args.pp m) _ packed.0 packed.1 makes (long ∙ rw block (pp_block c.args.slot c.args.pp m low c.requires.high inside))
          (record { attack = refl; defense = refl; speed = refl; special = refl }) (length-set m.moves (c.args.slot - 1) _)
          (pp_ok g.terms.rules c.args.slot c.args.pp m low inside small (member_ok c.args.side h));
    }
