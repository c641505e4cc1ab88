-- Moves of fixed damage, and one-hit moves (docs/MECHANICS.md, "Fixed damage and one-hit moves").
use Rattle.std.specs.Prelude.{Bool, max, nat_le, nat_lt, true, ℕ, ◌&&◌, ◌*◌, ◌/◌, ◌==◌}
use Rattle.gen1_tables.specs.declared.effect.Stat.TheVariants.{Speed}
use Rattle.gen1_machine.specs.declared.side.Side.{Side}
use Rattle.gen1_stats.specs.Members.{Member}
use Rattle.gen1_machine.specs.Sides.{other}
use Rattle.gen1_machine.specs.Moves.{sonic_boom, dragon_rage, psywave_move, super_fang, Move}
use Rattle.gen1_machine.specs.Progress.{Phase, ◌▸◌, choose, unless, given, draw_until, set_last_damage, set_missed, has_missed, active, member, stat_now, fault, Progress}
use Rattle.gen1_machine.specs.CriticalHits.{roll_critical}
use Rattle.gen1_machine.specs.Damage.{is_factor}
use Rattle.gen1_machine.specs.HitTest.{hit_or_miss, is_immune}

-- Psywave draws a number from 1 to below one and a half times the level. At level 1 no draw would meet that, and the
-- battle ends with a fault.

abbrev pub is_psywave : ℕ → ℕ → Bool
is_psywave level b = nat_lt 0 b && nat_lt b (level * 3 / 2)

unfoldable pub psywave : ℕ → Phase
psywave level = choose (λ _. nat_le level 1) (fault 2) (draw_until (is_psywave level) set_last_damage)

-- The damage by the move. Super Fang halves the foe's HP. A move that isn't named here deals the user's level.

abbrev pub half_hp : Member → ℕ
half_hp m = max 1 (m.hp / 2)

unfoldable pub deal_fixed : Side → ℕ → Phase
deal_fixed s move =
    choose (λ _. move == sonic_boom) (set_last_damage 20)
    (choose (λ _. move == dragon_rage) (set_last_damage 40)
    (choose (λ _. move == psywave_move) (given (member s) λ m. psywave m.level)
    (choose (λ _. move == super_fang) (given (member (other s)) λ m. set_last_damage (half_hp m))
    (given (member s) λ m. set_last_damage m.level))))

-- The hit test comes first, then the damage.
unfoldable pub fixed_damage : Side → Move → Phase
fixed_damage s move = hit_or_miss s move ▸ unless has_missed (deal_fixed s move.number)

-- A one-hit move misses if its user is slower. It draws a factor, which its damage doesn't use.

unfoldable pub deal_everything : ℕ → Phase
deal_everything b = set_last_damage 65535

unfoldable pub knock_out_by_type : Side → Move → Phase
knock_out_by_type s move =
    choose (λ p. is_immune move.kind (active (other s) p)) (set_missed true) (draw_until is_factor deal_everything)

abbrev pub is_slower : Side → Progress → Bool
is_slower s p = nat_lt (stat_now Speed s p) (stat_now Speed (other s) p)

unfoldable pub knock_out : Side → Move → Phase
knock_out s move =
    set_last_damage 0 ▸ roll_critical s move
    ▸ choose (is_slower s) (set_missed true) (knock_out_by_type s move ▸ hit_or_miss s move)
