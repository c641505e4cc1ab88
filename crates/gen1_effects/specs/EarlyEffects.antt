-- The ways of early effects (docs/MECHANICS.md, "Early effects").
use Rattle.gen1_tables.specs.declared.effect.Effect.{Effect}
use Rattle.gen1_tables.specs.declared.effect.Effect.TheVariants as effects
use Rattle.gen1_effects.specs.declared.early_effects.Way.{Way}
use Rattle.gen1_effects.specs.declared.early_effects.Way.TheVariants as ways

abbrev pub way_of : Effect → Way
way_of effects.Conversion = ways.Conversion
way_of effects.Mist = ways.Mist
way_of effects.FocusEnergy = ways.FocusEnergy
way_of effects.Screen = ways.Screen
way_of effects.Haze = ways.Haze
way_of effects.InflictConfusion = ways.Confusion
way_of effects.Heal = ways.Heal
way_of effects.InflictPoison = ways.Poison
way_of effects.InflictParalysis = ways.Paralysis
way_of effects.LeechSeed = ways.LeechSeed
way_of effects.Substitute = ways.Substitute
way_of effects.Splash = ways.Splash
way_of _ = ways.Fails
