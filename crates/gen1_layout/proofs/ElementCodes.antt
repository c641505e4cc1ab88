-- The table of types by their bytes.
use Rattle.std.proofs.Common.{ap, arith, get_or, map, refl, ℕ, ◌+◌, ◌<◌, ◌≡◌, ◌∙◌}
use Rattle.std.specs.List.{range_with_len}
use Rattle.std.proofs.lemmas.List.FromFn.{get_or-range_with_len}
use Rattle.gen1_tables.proofs.Named.{agree_at}
use Rattle.gen1_tables.specs.declared.types.Element.{Element}
use Rattle.gen1_layout.specs.Parts.{element_of}
use Rattle.gen1_layout.specs.declared.codes.TheConstants.{ELEMENTS}

from_none : (n : ℕ) → 0 + n ≡ n
from_none n = omega arith

each : map (λ (t : Element). t) ELEMENTS ≡ map (λ (n : ℕ). element_of n) (range_with_len 0 256)
each = refl

pub at_byte : (byte : ℕ) (d : Element) → byte < 256 → get_or ELEMENTS byte d ≡ element_of byte
at_byte byte d small =
    agree_at (λ (t : Element). t) (λ (n : ℕ). element_of n) ELEMENTS (range_with_len 0 256) d 0 each byte (omega arith) (omega arith)
    ∙ ap (λ (n : ℕ). element_of n) (get_or-range_with_len 0 256 byte 0 small ∙ from_none byte)
