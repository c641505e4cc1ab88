-- The result of a borrowed part when its borrow ends (docs/LAYOUT.md, "The 384 bytes of a battle"). That part is
-- rewritten, and every other part is as it was.
use Rattle.std.specs.Prelude.{List, ℕ, ◌+◌, ◌-◌}
use Rattle.std.specs.Borrow.{Array, Fml, Lends, LendsBoth, MutBor, u8}
use Rattle.std.specs.List.{refill}
use Rattle.gen1_machine.specs.declared.side.Side.{Side}
use Rattle.gen1_machine.specs.Sides.{other}
use Rattle.gen1_layout.specs.Parts.{active_of, in_order, joined, member_of, out_at, parts_of, refilled, rewritten, with_active, with_member, with_sides, Parts}
use Rattle.gen1_layout.specs.contracts.packed.Packed.{the_row}

-- The bytes from one offset up to another.
abbrev pub LendsPart : ℕ → ℕ → MutBor Parts → MutBor (List ℕ) → Fml
LendsPart from end packed lent =
    Lends the_row (Array u8 0) packed lent λ written. parts_of (rewritten from (end - from) written (joined packed.now))

abbrev pub LendsHeader : MutBor Parts → MutBor (List ℕ) → Fml
LendsHeader packed lent =
    Lends the_row (Array u8 0) packed lent λ written. record packed.now { header = refill 24 packed.now.header written }

abbrev pub LendsSide : Side → MutBor Parts → MutBor (List ℕ) → Fml
LendsSide s packed lent =
    Lends the_row (Array u8 0) packed lent λ written. refilled s written packed.now

-- Both sides, in the order of their bytes.
abbrev pub LendsSides : MutBor Parts → MutBor (List ℕ) → Fml
LendsSides packed lent = Lends the_row (Array u8 0) packed lent λ written. with_sides written packed.now

-- The bytes of both sides in two: a side's own, and the foe's.
abbrev pub LendsInTwo : Side → MutBor (List ℕ) → MutBor (List ℕ) × MutBor (List ℕ) → Fml
LendsInTwo s sides lent = LendsBoth (Array u8 0) (Array u8 0) (Array u8 0) sides lent (in_order s)

abbrev pub LendsBothSides : Side → MutBor Parts → MutBor (List ℕ) × MutBor (List ℕ) → Fml
LendsBothSides s packed lent =
    LendsBoth the_row (Array u8 0) (Array u8 0) packed lent λ own others. refilled s own (refilled (other s) others packed.now)

abbrev pub LendsActive : Side → MutBor Parts → MutBor (List ℕ) → Fml
LendsActive s packed lent =
    Lends the_row (Array u8 0) packed lent λ written. with_active s (refill 36 (active_of s packed.now) written) packed.now

abbrev pub LendsMember : Side → ℕ → MutBor Parts → MutBor (List ℕ) → Fml
LendsMember s place packed lent =
    Lends the_row (Array u8 0) packed lent λ written.
    with_member s place (refill 24 (member_of s place packed.now) written) packed.now

-- The bytes of the member that is out, wherever they begin.
abbrev pub LendsOut : Side → MutBor Parts → MutBor (List ℕ) → Fml
LendsOut s packed lent = LendsPart (out_at s packed.now) (out_at s packed.now + 24) packed lent
