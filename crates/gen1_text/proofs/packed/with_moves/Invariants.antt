use Rattle.std.proofs.Common.{◌≡◌}
use Rattle.gen1_text.specs.MemberLines.{pieces_left, pieces_of}
use Rattle.gen1_text.specs.Packed.{with_moves}
use Rattle.gen1_text.proofs.packed.with_moves.Given as goal

abbrev pub invariant-loop-name : goal.invariant-loop-name
invariant-loop-name l = with_moves (pieces_left l.name-iterator) l.spec ≡ with_moves (pieces_of 44 l.text) l.fn.spec
