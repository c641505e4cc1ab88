-- The hit of a confused member on itself (docs/MECHANICS.md, "Hit on itself").
use Rattle.std.specs.Prelude.{None, Option, Some, false, ℕ}
use Rattle.gen1_tables.specs.declared.types.Element.TheVariants.{Normal}
use Rattle.gen1_tables.specs.declared.effect.Stat.TheVariants.{Attack, Defense}
use Rattle.gen1_tables.specs.declared.effect.Effect.TheVariants as effects
use Rattle.gen1_machine.specs.declared.side.Side.{Side}
use Rattle.gen1_machine.specs.declared.event.DamageSource.TheVariants as sources
use Rattle.gen1_machine.specs.Sides.{other}
use Rattle.gen1_machine.specs.Conditions.{without_invulnerability, broken_off, without_flinch}
use Rattle.gen1_machine.specs.State.{conditions_in, Field}
use Rattle.gen1_machine.specs.CurrentStats.{now_in}
use Rattle.gen1_machine.specs.Moves.{Move}
use Rattle.gen1_machine.specs.Progress.{Phase, stay, ◌▸◌, choose, given, stop, on_conditions, set_last_damage, conditions, has_substitute, fault}
use Rattle.gen1_machine.specs.Damage.{doubled_if, numbers_from, before_types, DamageNumbers}
use Rattle.gen1_machine.specs.Landing.{land_on_substitute, land_on_hp}

-- The hit has the strength of a move of power 40 without an effect.
abbrev pub own_hit : Move
own_hit = record { number = 0; kind = Normal; power = 40; accuracy = 100; effect = effects.DamageOnly }

-- The user's own Attack works against its own Defense. The foe's Reflect doubles that Defense.
abbrev pub own_numbers_in : Side → Field → DamageNumbers
own_numbers_in s f =
    numbers_from s false own_hit (now_in Attack s f) (doubled_if (conditions_in (other s) f).reflect (now_in Defense s f)) f

-- The foe's substitute takes the damage, if there is one.
unfoldable pub land_on_foes_substitute : Side → ℕ → Option ℕ → Phase
land_on_foes_substitute s damage None = stay
land_on_foes_substitute s damage (Some hp) = land_on_substitute (other s) damage hp

-- A user with its own substitute isn't hurt.
unfoldable pub hurt_itself_by : Side → Option ℕ → Phase
hurt_itself_by s None = fault 1
hurt_itself_by s (Some damage) =
    set_last_damage damage ▸ choose (has_substitute s)
    (given (λ p. (conditions (other s) p).substitute) (land_on_foes_substitute s damage))
    (land_on_hp s sources.Confusion damage)

-- The hit takes no critical draw, no types, no factor and no hit test.
unfoldable pub hurt_itself : Side → Phase
hurt_itself s =
    on_conditions s broken_off ▸ on_conditions s without_flinch ▸ on_conditions s without_invulnerability
    ▸ given (λ p. own_numbers_in s p.field) (λ n. hurt_itself_by s (before_types n)) ▸ stop
