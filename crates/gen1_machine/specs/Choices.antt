-- Choices as bytes (docs/MECHANICS.md, "Offered choices").
use Rattle.std.specs.Prelude.{ℕ, ◌+◌, ◌-◌, ◌==◌, ◌&&◌, nat_le, if◌then◌else◌, Option, Some, None}
use Rattle.gen1_machine.specs.declared.side.Choice.{Choice}
use Rattle.gen1_machine.specs.declared.side.Choice.TheVariants.{Pass, Move, Switch}

abbrev pub byte_of_choice : Choice → ℕ
byte_of_choice Pass = 0x00
byte_of_choice (Move slot) = 0x10 + slot
byte_of_choice (Switch place) = 0x20 + place

-- The choice that a byte represents. Slots are 0 to 4, places 1 to 6.
abbrev pub choice_at : ℕ → Option Choice
choice_at byte =
    if byte == 0x00
    then Some Pass
    else if nat_le 0x10 byte && nat_le byte 0x14
    then Some (Move (byte - 0x10))
    else if nat_le 0x21 byte && nat_le byte 0x26
    then Some (Switch (byte - 0x20))
    else None
