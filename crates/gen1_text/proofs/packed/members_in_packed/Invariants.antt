use Rattle.std.proofs.Common.{length, ◌≡◌, ◌≤◌}
use Rattle.gen1_text.specs.Packed.{all_unpacked, members_packed}
use Rattle.gen1_text.specs.MemberLines.{pieces_left, behind}
use Rattle.gen1_text.proofs.packed.members_in_packed.Given as goal

abbrev pub invariant-loop-piece : goal.invariant-loop-piece
invariant-loop-piece l = record {
  tells : behind l.members.items (all_unpacked (length l.members.items) (pieces_left l.piece-iterator)) ≡ members_packed l.text;
  fits : length l.members.items ≤ 6;
}
