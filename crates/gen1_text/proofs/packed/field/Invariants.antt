use Rattle.std.proofs.Common.{[], ◌≡◌}
use Rattle.std.specs.Prelude.{slice_index_or}
use Rattle.gen1_text.specs.MemberLines.{pieces_left}
use Rattle.gen1_text.specs.Packed.{field}
use Rattle.gen1_text.proofs.packed.field.Given as goal

abbrev pub invariant-loop-piece : goal.invariant-loop-piece
invariant-loop-piece l = slice_index_or (pieces_left l.piece-iterator) l.before [] ≡ field l.number l.member
