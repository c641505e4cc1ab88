-- Moves that act after the damage step, and end the action (docs/MECHANICS.md, "Late effects").
use Rattle.std.specs.Prelude.{Bool, false, true, ℕ, ◌+◌}
use Rattle.gen1_tables.specs.declared.effect.Stat.{Stat}
use Rattle.gen1_tables.specs.declared.effect.Effect.{Effect}
use Rattle.gen1_tables.specs.declared.effect.Effect.TheVariants as effects
use Rattle.gen1_machine.specs.declared.side.Side.{Side}
use Rattle.gen1_machine.specs.declared.event.Volatile.TheVariants as volatiles
use Rattle.gen1_rolls.specs.Streams.{low_bits}
use Rattle.gen1_stats.specs.Stats.{stat}
use Rattle.gen1_machine.specs.Sides.{other}
use Rattle.gen1_machine.specs.Conditions.{with_bide, without_recharge}
use Rattle.gen1_machine.specs.Moves.{Move}
use Rattle.gen1_machine.specs.Progress.{Phase, stay, ◌▸◌, choose, draw, on_conditions, starts, underway, has_status, has_substitute, is_invulnerable, fail, fails_if}
use Rattle.gen1_machine.specs.HitTest.{must_hit}
use Rattle.gen1_machine.specs.StageShift.{raise_stage, lower_stage}
use Rattle.gen1_machine.specs.Ruling.{Ruling}

-- A foe that has to recharge loses its recharging. It falls asleep without any other test.

unfoldable pub ready_to_sleep : Side → Move → Phase
ready_to_sleep s move =
    choose (λ p. (underway (other s) p).recharge)
    (on_conditions (other s) without_recharge)
    (fails_if s (has_status (other s)) ▸ must_hit s move)

unfoldable pub put_to_sleep : Ruling → Side → Move → Phase
put_to_sleep r s move = ready_to_sleep s move ▸ r.sleeps s

-- One of the foe's stages falls.
unfoldable pub lower_foes_stat : Side → Move → Stat → ℕ → Phase
lower_foes_stat s move stat by =
    fails_if s (has_substitute (other s)) ▸ must_hit s move
    ▸ fails_if s (is_invulnerable (other s)) ▸ lower_stage s (other s) stat by (fail s)

-- Bide stores energy for two or three turns.

unfoldable pub bide_for : Side → ℕ → Phase
bide_for s b = starts s volatiles.Bide (with_bide (low_bits 1 b + 2))

unfoldable pub start_bide : Side → Phase
start_bide s = draw (bide_for s)

-- By the effect of the move

abbrev pub is_late : Effect → Bool
is_late (effects.StatUp stat n) = true
is_late (effects.StatDown stat n) = true
is_late effects.InflictSleep = true
is_late effects.Bide = true
is_late _ = false

unfoldable pub late_effect : Ruling → Side → Move → Effect → Phase
late_effect r s move (effects.StatUp stat n) = raise_stage s s stat n (fail s)
late_effect r s move (effects.StatDown stat n) = lower_foes_stat s move stat n
late_effect r s move effects.InflictSleep = put_to_sleep r s move
late_effect r s move effects.Bide = start_bide s
late_effect r s move _ = stay
