-- Moves that act before any damage, and end the action (docs/MECHANICS.md, "Early effects").
use Rattle.std.specs.Prelude.{Bool, None, Option, Some, false, nat_lt, true, ℕ, ◌&&◌, ◌+◌, ◌-◌, ◌/◌, ◌==◌, ◌||◌}
use Rattle.gen1_tables.specs.declared.types.Element.TheVariants.{Poison, Ground, Grass, Electric}
use Rattle.gen1_tables.specs.declared.effect.Effect.{Effect}
use Rattle.gen1_tables.specs.declared.effect.Effect.TheVariants as effects
use Rattle.gen1_stats.specs.declared.member.Status.{Status}
use Rattle.gen1_stats.specs.declared.member.Status.TheVariants.{Asleep, Poisoned, Paralysed}
use Rattle.gen1_machine.specs.declared.side.Side.{Side}
use Rattle.gen1_machine.specs.declared.side.Side.TheVariants.{One, Two}
use Rattle.gen1_machine.specs.declared.event.Kind.{Kind}
use Rattle.gen1_machine.specs.declared.event.Kind.TheVariants as kinds
use Rattle.gen1_machine.specs.declared.event.DamageSource.TheVariants as sources
use Rattle.gen1_machine.specs.declared.event.Volatile.TheVariants as volatiles
use Rattle.gen1_machine.specs.declared.event.Event.TheVariants as events
use Rattle.gen1_tables.specs.Types.{same_type}
use Rattle.gen1_rolls.specs.Streams.{low_bits}
use Rattle.gen1_machine.specs.Sides.{other}
use Rattle.gen1_machine.specs.Conditions.{with_confusion, with_mist, with_focus_energy, with_light_screen, with_reflect, with_substitute, with_seed, with_bad_poison, after_haze}
use Rattle.gen1_machine.specs.State.{who_in, kind_of, changed_active, changed_member, with_status, with_types_of, level_stages, Active}
use Rattle.gen1_machine.specs.Moves.{toxic, light_screen_move, rest, Move}
use Rattle.gen1_machine.specs.Progress.{Phase, stay, ◌▸◌, choose, only, given, draw, note, told, on_active, on_conditions, starts, active, conditions, member, status_of, has_status, has_substitute, is_invulnerable, is_confused, is_of, fail, fails_if, lose_hp, gain_hp, inflict, cure, Progress}
use Rattle.gen1_machine.specs.HitTest.{must_hit}
use Rattle.gen1_stats.specs.Members.{sleeps_or_freezes}

-- Confusion lasts two to five turns.

unfoldable pub confused_by : Side → ℕ → Phase
confused_by s b = starts s volatiles.Confusion (with_confusion (low_bits 2 b + 2))

unfoldable pub confuse : Side → Phase
confuse s = draw (confused_by s)

-- Whether the foe is confused already is tested after the hit test.
unfoldable pub confuse_foe : Side → Move → Phase
confuse_foe s move =
    fails_if s (has_substitute (other s)) ▸ must_hit s move
    ▸ fails_if s (is_confused (other s)) ▸ confuse (other s)

-- Conversion copies the foe's types.

unfoldable pub take_types : Side → Active → Phase
take_types s foe =
    told (changed_active s (with_types_of foe)) λ f. events.Start (who_in s f) volatiles.TypeChange

unfoldable pub convert : Side → Phase
convert s = fails_if s (is_invulnerable (other s)) ▸ given (active (other s)) (take_types s)

-- Mist, Focus Energy and the screens fail if they are up already.

unfoldable pub set_mist : Side → Phase
set_mist s = fails_if s (λ p. (conditions s p).mist) ▸ starts s volatiles.Mist with_mist

unfoldable pub set_focus_energy : Side → Phase
set_focus_energy s = fails_if s (λ p. (conditions s p).focus_energy) ▸ starts s volatiles.FocusEnergy with_focus_energy

unfoldable pub set_light_screen : Side → Phase
set_light_screen s = fails_if s (λ p. (conditions s p).light_screen) ▸ starts s volatiles.LightScreen with_light_screen

unfoldable pub set_reflect : Side → Phase
set_reflect s = fails_if s (λ p. (conditions s p).reflect) ▸ starts s volatiles.Reflect with_reflect

unfoldable pub set_screen : Side → Move → Phase
set_screen s move = choose (λ _. move.number == light_screen_move) (set_light_screen s) (set_reflect s)

-- Haze clears the conditions of both sides and cures the foe. A foe that was asleep or frozen doesn't act any more
-- this turn.

unfoldable pub with_levelled_stats : Active → Active
with_levelled_stats a = record a { stages = level_stages; attack_penalties = 0; speed_penalties = 0 }

unfoldable pub clear_side : Side → Phase
clear_side s = on_active s with_levelled_stats ▸ on_conditions s after_haze

unfoldable pub cure_kind : Side → Option Kind → Phase
cure_kind s None = stay
cure_kind s (Some kind) = cure s kind

unfoldable pub set_skips : Bool → Phase
set_skips skips p = record p { skips = skips }

unfoldable pub haze_cures : Side → Status → Phase
haze_cures s status = set_skips (sleeps_or_freezes status) ▸ cure_kind s (kind_of status)

unfoldable pub haze : Side → Phase
haze s =
    clear_side One ▸ clear_side Two ▸ note (λ f. events.ClearAll)
    ▸ given (status_of (other s)) (haze_cures (other s))

-- Healing

-- Healing fails at these losses of HP, whatever the maximum is.
abbrev pub resists_healing : ℕ → Bool
resists_healing lost = lost == 0 || lost == 255 || lost == 511

abbrev pub cannot_heal : Side → Progress → Bool
cannot_heal s p = resists_healing ((member s p).max - (member s p).hp)

-- Rest restores all HP, and its sleep replaces the status. Penalties stay.
unfoldable pub rest_up : Side → Phase
rest_up s =
    told (changed_member s (with_status (Asleep 2 false))) (λ f. events.Status (who_in s f) kinds.Sleep)
    ▸ given (member s) λ m. gain_hp s m.max

unfoldable pub recover : Side → Phase
recover s = given (member s) λ m. gain_hp s (m.max / 2)

unfoldable pub heal : Side → Move → Phase
heal s move = fails_if s (cannot_heal s) ▸ choose (λ _. move.number == rest) (rest_up s) (recover s)

-- Poison. Toxic's is bad poison.
unfoldable pub poison_foe : Side → Move → Phase
poison_foe s move =
    fails_if s (has_substitute (other s)) ▸ fails_if s (has_status (other s)) ▸ fails_if s (is_of (other s) Poison)
    ▸ must_hit s move ▸ inflict (other s) Poisoned kinds.Poison
    ▸ only (move.number == toxic) (on_conditions (other s) with_bad_poison)

-- Paralysis passes a substitute. An Electric move doesn't paralyse a Ground type.
unfoldable pub paralyse_foe : Side → Move → Phase
paralyse_foe s move =
    fails_if s (has_status (other s))
    ▸ fails_if s (λ p. same_type move.kind Electric && is_of (other s) Ground p)
    ▸ must_hit s move ▸ inflict (other s) Paralysed kinds.Paralysis

-- Leech Seed passes a substitute.
unfoldable pub seed_foe : Side → Move → Phase
seed_foe s move =
    must_hit s move
    ▸ fails_if s (λ p. (conditions (other s) p).seeded || is_of (other s) Grass p)
    ▸ starts (other s) volatiles.LeechSeed with_seed

-- A substitute costs a quarter of the maximum HP, even if that is all the HP that is left.

unfoldable pub pay_for_substitute : Side → ℕ → Phase
pay_for_substitute s cost = starts s volatiles.Substitute (with_substitute cost) ▸ lose_hp s sources.Direct cost

unfoldable pub make_substitute : Side → Phase
make_substitute s =
    fails_if s (has_substitute s) ▸ fails_if s (λ p. nat_lt (member s p).hp ((member s p).max / 4))
    ▸ given (λ p. (member s p).max / 4) (pay_for_substitute s)

-- Splash does nothing.
unfoldable pub splash : Side → Phase
splash s = note λ f. events.Activate (who_in s f) volatiles.Splash

-- By the effect of the move

abbrev pub is_early : Effect → Bool
is_early effects.AlwaysFails = true
is_early effects.Conversion = true
is_early effects.Mist = true
is_early effects.FocusEnergy = true
is_early effects.Screen = true
is_early effects.Haze = true
is_early effects.InflictConfusion = true
is_early effects.Heal = true
is_early effects.InflictPoison = true
is_early effects.InflictParalysis = true
is_early effects.LeechSeed = true
is_early effects.Substitute = true
is_early effects.Splash = true
is_early _ = false

unfoldable pub early_effect : Side → Move → Effect → Phase
early_effect s move effects.Conversion = convert s
early_effect s move effects.Mist = set_mist s
early_effect s move effects.FocusEnergy = set_focus_energy s
early_effect s move effects.Screen = set_screen s move
early_effect s move effects.Haze = haze s
early_effect s move effects.InflictConfusion = confuse_foe s move
early_effect s move effects.Heal = heal s move
early_effect s move effects.InflictPoison = poison_foe s move
early_effect s move effects.InflictParalysis = paralyse_foe s move
early_effect s move effects.LeechSeed = seed_foe s move
early_effect s move effects.Substitute = make_substitute s
early_effect s move effects.Splash = splash s
early_effect s move _ = fail s
