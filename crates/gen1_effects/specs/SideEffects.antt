-- What a move may do in addition to its damage (docs/MECHANICS.md, "Side effects"): the ways of effects.
use Rattle.gen1_layout.specs.Words.{Bool, Phase, Side, false, other, true}
use Rattle.gen1_tables.specs.declared.effect.Effect.{Effect}
use Rattle.gen1_tables.specs.declared.effect.Effect.TheVariants as effects
use Rattle.gen1_stats.specs.declared.member.Status.TheVariants.{Burned, Paralysed}
use Rattle.gen1_machine.specs.declared.event.Kind.{Kind}
use Rattle.gen1_machine.specs.declared.event.Kind.TheVariants as kinds
use Rattle.gen1_machine.specs.Moves.{Move}
use Rattle.gen1_machine.specs.Progress.{given, draw_until, has_substitute, inflict, member, stay, unless}
use Rattle.gen1_machine.specs.Ruling.{Ruling}
use Rattle.gen1_machine.specs.SideEffects.{by_chance, disable_slot, flinch, may_inflict, may_poison, names_slot}
use Rattle.gen1_machine.specs.StageShift.{lower_stage}
use Rattle.gen1_status.specs.Statuses.{status_of_kind}
use Rattle.gen1_effects.specs.declared.side_effects.Harm.{Harm}
use Rattle.gen1_effects.specs.declared.side_effects.Harm.TheVariants as harm
use Rattle.gen1_effects.specs.declared.side_effects.Way.{Way}
use Rattle.gen1_effects.specs.declared.side_effects.Way.TheVariants as ways

-- A status of a kind for the foe. A freeze depends on the rules.
abbrev pub is_freeze : Kind → Bool
is_freeze kinds.Freeze = true
is_freeze _ = false

abbrev pub afflict : Ruling → Side → Kind → Phase
afflict r s kinds.Freeze = r.freezes s
afflict r s kind = inflict (other s) (status_of_kind kind 0) kind

-- Disable after it has hit, if nothing is disabled yet.
abbrev pub draw_slot : Side → Phase
draw_slot s = given (λ p. (member (other s) p).moves) λ moves. draw_until (names_slot moves) (disable_slot s moves)

-- The ways of effects

abbrev pub harm_of : Effect → Harm
harm_of (effects.PoisonChance n) = harm.Poison n
harm_of effects.Twineedle = harm.Poison 52
harm_of (effects.BurnChance n) = harm.Burn n
harm_of effects.FreezeChance = harm.Freeze
harm_of (effects.ParalysisChance n) = harm.Paralysis n
harm_of (effects.FlinchChance n) = harm.Flinch n
harm_of (effects.StatDownChance stat) = harm.Drop stat
harm_of _ = harm.Nothing

abbrev pub way_of : Effect → Way
way_of (effects.ConfusionChance n) = ways.Confuse n
way_of effects.Disable = ways.Disable
way_of effects.Recharge = ways.Recharge
way_of e = ways.Harm (harm_of e)

-- What each of them does

abbrev pub harms : Ruling → Side → Move → Harm → Phase
harms r s move (harm.Poison n) = may_poison s n
harms r s move (harm.Burn n) = may_inflict s move n (inflict (other s) Burned kinds.Burn)
harms r s move harm.Freeze = may_inflict s move 26 (r.freezes s)
harms r s move (harm.Paralysis n) = may_inflict s move n (inflict (other s) Paralysed kinds.Paralysis)
harms r s move (harm.Flinch n) = by_chance n (flinch (other s))
harms r s move (harm.Drop stat) = by_chance 85 (lower_stage s (other s) stat 1 stay)
harms r s move harm.Nothing = stay

abbrev pub harms_unless_away : Ruling → Side → Move → Harm → Phase
harms_unless_away r s move h = unless (has_substitute (other s)) (harms r s move h)
