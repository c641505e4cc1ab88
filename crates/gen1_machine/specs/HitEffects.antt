-- What follows each hit (docs/MECHANICS.md, "Recoil, drain and explosion"). A hit that breaks a substitute has none
-- of it.
use Rattle.std.specs.Prelude.{Some, if◌then◌else◌, is_some, max, ℕ, ◌+◌, ◌/◌, ◌==◌}
use Rattle.gen1_tables.specs.declared.effect.Effect.{Effect}
use Rattle.gen1_tables.specs.declared.effect.Effect.TheVariants as effects
use Rattle.gen1_machine.specs.declared.side.Side.{Side}
use Rattle.gen1_machine.specs.declared.event.DamageSource.TheVariants as sources
use Rattle.gen1_machine.specs.declared.event.Volatile.TheVariants as volatiles
use Rattle.gen1_tables.specs.Moves.{struggle}
use Rattle.gen1_machine.specs.Conditions.{with_rage, without_seed}
use Rattle.gen1_machine.specs.State.{fallen}
use Rattle.gen1_machine.specs.Moves.{Move}
use Rattle.gen1_machine.specs.Progress.{Phase, stay, ◌▸◌, unless, given, on_conditions, on_member, set_last_damage, starts, on_action, last_damage, underway, lose_hp, gain_hp}
use Rattle.gen1_machine.specs.GoingOn.{draw_count}

-- The number of hits is settled after the first.

unfoldable pub set_planned : ℕ → Phase
set_planned hits = on_action λ a. record a { hits_planned = Some hits }

unfoldable pub plan_two_more : ℕ → Phase
plan_two_more n = set_planned (n + 2)

unfoldable pub plan_hits : Phase
plan_hits = unless (λ p. is_some p.action.hits_planned) (draw_count plan_two_more)

-- Recoil costs the user a quarter of the last damage, or half of it for Struggle.

abbrev pub recoil_of : Move → ℕ → ℕ
recoil_of move damage = max 1 (damage / (if move.number == struggle then 2 else 4))

unfoldable pub recoil : Side → Move → Phase
recoil s move = given (λ p. recoil_of move (last_damage p)) (lose_hp s sources.Recoil)

-- The user heals by half of the damage. That half becomes the last damage.

unfoldable pub drain_by : Side → ℕ → Phase
drain_by s n = set_last_damage n ▸ gain_hp s n

unfoldable pub drain : Side → Phase
drain s = given (λ p. max 1 (last_damage p / 2)) (drain_by s)

-- Rage starts. It never ends by itself.
unfoldable pub start_rage : Side → Phase
start_rage s = unless (λ p. (underway s p).rage) (starts s volatiles.Rage with_rage)

-- The user of an explosion falls. No event reports that.
unfoldable pub explode : Side → Phase
explode s = on_member s fallen ▸ on_conditions s without_seed

-- By the effect of the move.
unfoldable pub hit_effect : Side → Move → Effect → Phase
hit_effect s move effects.MultiHit = plan_hits
hit_effect s move effects.DoubleHit = set_planned 2
hit_effect s move effects.Twineedle = set_planned 2
hit_effect s move effects.Recoil = recoil s move
hit_effect s move effects.Drain = drain s
hit_effect s move effects.DreamEater = drain s
hit_effect s move effects.Rage = start_rage s
hit_effect s move effects.Explode = explode s
hit_effect s move _ = stay
