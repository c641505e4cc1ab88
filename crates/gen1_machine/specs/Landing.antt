-- Where damage lands (docs/MECHANICS.md, "Landing"): on HP, or on a substitute.
use Rattle.std.specs.Prelude.{Bool, None, Option, Some, min, nat_lt, true, ℕ, ◌||◌}
use Rattle.gen1_machine.specs.declared.side.Side.{Side}
use Rattle.gen1_machine.specs.declared.event.DamageSource.{DamageSource}
use Rattle.gen1_machine.specs.declared.event.DamageSource.TheVariants as sources
use Rattle.gen1_machine.specs.declared.event.Volatile.TheVariants as volatiles
use Rattle.gen1_machine.specs.Conditions.{with_substitute_hurt, without_substitute}
use Rattle.gen1_machine.specs.Progress.{Phase, ◌▸◌, choose, when, given, set_last_damage, lasts, ends, on_action, last_damage, conditions, member, lose_hp}

-- A substitute breaks if the damage is more than its HP, or more than 255. Equal damage leaves it at 0.
abbrev pub breaks : ℕ → ℕ → Bool
breaks damage hp = nat_lt 255 damage || nat_lt hp damage

unfoldable pub set_broke : Phase
set_broke = on_action λ a. record a { broke = true }

unfoldable pub land_on_substitute : Side → ℕ → ℕ → Phase
land_on_substitute target damage hp =
    choose (λ _. breaks damage hp)
    (set_broke ▸ ends target volatiles.Substitute without_substitute)
    (lasts target volatiles.Substitute (with_substitute_hurt damage))

-- The last damage becomes at most the HP that was there.
unfoldable pub land_on_hp : Side → DamageSource → ℕ → Phase
land_on_hp target source damage =
    given (member target) λ m. set_last_damage (min damage m.hp) ▸ lose_hp target source damage

unfoldable pub land_by : Side → ℕ → Option ℕ → Phase
land_by target damage (Some hp) = land_on_substitute target damage hp
land_by target damage None = land_on_hp target sources.Direct damage

unfoldable pub land_damage : Side → ℕ → Phase
land_damage target damage = given (λ p. (conditions target p).substitute) (land_by target damage)

-- The last damage lands. Damage of 0 changes nothing.
unfoldable pub land : Side → Phase
land target = when (λ p. nat_lt 0 (last_damage p)) (given last_damage (land_damage target))
