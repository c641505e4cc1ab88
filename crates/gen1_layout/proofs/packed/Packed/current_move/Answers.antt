use Rattle.gen1_layout.proofs.Words.{active_in, active_ok, length, member_in}
use Rattle.gen1_layout.proofs.WaysBack.{few_moves, used_back}
use Rattle.gen1_layout.proofs.packed.Packed.current_move.Goals as goal

pub returns : goal.returns
returns c =
    record {
      stands = λ g f h. rw (c.used_from.ensures, c.active.ensures.stands g f h)
          (used_back (length (member_in c.args.side f).moves) (active_in c.args.side f).current_move (few_moves h c.args.side) (active_ok c.args.side h).current_move);
    }
