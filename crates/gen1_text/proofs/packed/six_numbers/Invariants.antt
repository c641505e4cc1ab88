use Rattle.std.proofs.Common.{length, take, ◌+◌, ◌≡◌}
use Rattle.gen1_text.specs.MemberLines.{pieces_left, pieces_of}
use Rattle.gen1_text.specs.Packed.{each_number}
use Rattle.gen1_text.proofs.PackedLemmas.{with_front}
use Rattle.gen1_text.proofs.packed.six_numbers.Given as goal

abbrev pub invariant-loop-piece : goal.invariant-loop-piece
invariant-loop-piece l = record {
  reads : with_front (take l.place l.spread) (each_number l.most (pieces_left l.piece-iterator)) ≡ each_number l.most (pieces_of 44 l.text);
  places : l.place + length (pieces_left l.piece-iterator) ≡ 6;
  six : length l.spread ≡ 6;
}
