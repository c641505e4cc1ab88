use Rattle.std.proofs.Common.{◌≡◌, length}
use Rattle.gen1_text.specs.MemberLines.{pieces_left, pieces_of, nothing_said, with_parts}
use Rattle.gen1_text.proofs.spread.spread_in.Given as goal

abbrev pub invariant-loop-part : goal.invariant-loop-part
invariant-loop-part l =
    (with_parts l.most l.spread (pieces_left l.part-iterator) ≡ with_parts l.most nothing_said (pieces_of 47 l.text)) × (length l.spread ≡ 6)
