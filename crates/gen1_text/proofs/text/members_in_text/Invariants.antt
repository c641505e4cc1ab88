use Rattle.std.proofs.Common.{length, ◌+◌, ◌<◌, ◌≡◌, ◌≤◌}
use Rattle.std.specs.Prelude.{OnSome}
use Rattle.gen1_text.specs.MemberLines.{pieces_left, behind}
use Rattle.gen1_text.specs.Texts.{lines_of, members_told, told}
use Rattle.gen1_text.proofs.text.members_in_text.Given as goal

abbrev pub invariant-loop-piece : goal.invariant-loop-piece
invariant-loop-piece l = record {
  tells : behind l.members.items (told (length l.members.items) l.line l.current (pieces_left l.piece-iterator)) ≡ members_told l.text;
  counts : l.line + length (pieces_left l.piece-iterator) ≡ length (lines_of l.text);
  fits : length l.members.items ≤ 6;
  has_room : OnSome l.current (length l.members.items < 6);
}
