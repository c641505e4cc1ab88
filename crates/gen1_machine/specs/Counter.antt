-- Counter (docs/MECHANICS.md, "Counter") deals twice the last damage.
use Rattle.std.specs.Prelude.{Bool, min, nat_lt, not, true, ℕ, ◌&&◌, ◌*◌, ◌==◌, ◌||◌}
use Rattle.gen1_tables.specs.declared.types.Element.TheVariants.{Normal, Fighting}
use Rattle.gen1_machine.specs.declared.side.Side.{Side}
use Rattle.gen1_tables.specs.Types.{same_type}
use Rattle.gen1_machine.specs.Sides.{other}
use Rattle.gen1_machine.specs.Moves.{move_at, counter_move, Move}
use Rattle.gen1_machine.specs.Progress.{Phase, ◌▸◌, choose, given, set_last_damage, set_missed, last_damage, Progress}
use Rattle.gen1_machine.specs.CriticalHits.{roll_critical}
use Rattle.gen1_machine.specs.HitTest.{hit_or_miss}
use Rattle.gen1_machine.specs.Picks.{picked_move_in}

abbrev pub can_be_countered : Move → Bool
can_be_countered move =
    not (move.number == 0) && not (move.number == counter_move) && nat_lt 0 move.power
    && (same_type move.kind Normal || same_type move.kind Fighting)

-- Counter depends on the move that the foe picked, and needs a last damage above 0.
abbrev pub can_counter : Side → Progress → Bool
can_counter s p = can_be_countered (move_at (picked_move_in (other s) p.field)) && nat_lt 0 (last_damage p)

unfoldable pub counter_by : Side → Move → ℕ → Phase
counter_by s move damage = set_last_damage (min 65535 (2 * damage)) ▸ hit_or_miss s move

unfoldable pub counter : Side → Move → Phase
counter s move =
    roll_critical s move ▸ choose (can_counter s) (given last_damage (counter_by s move)) (set_missed true)
