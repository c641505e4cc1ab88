-- Critical hits (docs/MECHANICS.md, "Critical hits"). Their chance depends on base Speed, Focus Energy and the move.
use Rattle.std.specs.Prelude.{Bool, if◌then◌else◌, min, nat_lt, ℕ, ◌%◌, ◌*◌, ◌+◌, ◌/◌}
use Rattle.gen1_machine.specs.declared.side.Side.{Side}
use Rattle.gen1_tables.specs.Species.{species_row}
use Rattle.gen1_machine.specs.State.{conditions_in, member_in, Field}
use Rattle.gen1_machine.specs.Moves.{is_often_critical, Move}
use Rattle.gen1_machine.specs.Progress.{Phase, given, draw, on_action}

-- The bits of a byte, rotated to the left by 3.
abbrev pub rotated_left_3 : ℕ → ℕ
rotated_left_3 b = b * 8 % 256 + b / 32

-- A rotated draw below this bound is a critical hit. Focus Energy makes the bound smaller, as the game does.
abbrev pub critical_bound : ℕ → Bool → Bool → ℕ
critical_bound base_speed focused often =
    let b = if focused then base_speed / 2 / 2 else min 255 (2 * (base_speed / 2)) in
    if often then min 255 (4 * b) else b / 2

abbrev pub critical_bound_in : Side → Move → Field → ℕ
critical_bound_in s move f =
    critical_bound (species_row (member_in s f).species).speed (conditions_in s f).focus_energy (is_often_critical move.number)

unfoldable pub set_critical : Bool → Phase
set_critical critical = on_action λ a. record a { critical = critical }

unfoldable pub critical_by : Side → Move → ℕ → Phase
critical_by s move b = given (λ p. critical_bound_in s move p.field) λ bound. set_critical (nat_lt (rotated_left_3 b) bound)

unfoldable pub roll_critical : Side → Move → Phase
roll_critical s move = draw (critical_by s move)
