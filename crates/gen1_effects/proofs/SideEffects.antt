-- What a move may do in addition to its damage, by the way of its effect, and conditions without a number that begin.
use Rattle.std.proofs.Common.{◌&&◌, ◌≡◌, refl}
use Rattle.gen1_layout.proofs.Words.{Bool, Frame, Parts, Phase, Progress, Shows, Side, Telling, false, if_not, if_so, stay, stays, true}
use Rattle.gen1_tables.specs.declared.effect.Effect.{Effect}
use Rattle.gen1_machine.specs.declared.event.Kind.{Kind}
use Rattle.gen1_machine.specs.Conditions.{with_flinch, with_recharge, with_focus_energy, with_light_screen, with_mist, with_reflect, with_seed, ActiveConditions}
use Rattle.gen1_machine.specs.Moves.{Move}
use Rattle.gen1_machine.specs.Progress.{inflict}
use Rattle.gen1_machine.specs.Ruling.{freeze_freely, freeze_only_one, freezes_under, has_frozen_member, Ruling}
use Rattle.gen1_machine.specs.Sides.{other}
use Rattle.gen1_machine.specs.SideEffects.{disable, kept_away_effect, may_confuse, must_recharge, side_effect}
use Rattle.gen1_layout.specs.Words.{SameNumbers}
use Rattle.gen1_status.specs.Statuses.{status_of_kind}
use Rattle.gen1_effects.specs.declared.side_effects.Way.{Way}
use Rattle.gen1_effects.specs.SideEffects.{afflict, harm_of, harms, harms_unless_away, is_freeze, way_of}
use Rattle.gen1_tables.specs.declared.effect.Effect.TheVariants as effects
use Rattle.gen1_machine.specs.declared.event.Kind.TheVariants as kinds
use Rattle.gen1_effects.specs.declared.side_effects.Way.TheVariants as ways

abbrev pub way_phase : Ruling → Side → Move → Way → Phase
way_phase r s move (ways.Confuse n) = may_confuse s n
way_phase r s move ways.Disable = disable s move
way_phase r s move ways.Recharge = must_recharge s
way_phase r s move (ways.Harm h) = harms_unless_away r s move h

kept_away_effect-is : (r : Ruling) (s : Side) (move : Move) (e : Effect) → kept_away_effect r s move e ≡ harms r s move (harm_of e)
unfolding kept_away_effect
kept_away_effect-is r s move (effects.PoisonChance n) = refl
kept_away_effect-is r s move effects.Twineedle = refl
kept_away_effect-is r s move (effects.BurnChance n) = refl
kept_away_effect-is r s move effects.FreezeChance = refl
kept_away_effect-is r s move (effects.ParalysisChance n) = refl
kept_away_effect-is r s move (effects.FlinchChance n) = refl
kept_away_effect-is r s move (effects.StatDownChance stat) = refl
kept_away_effect-is r s move _ = refl

pub side_effect-is : (r : Ruling) (s : Side) (move : Move) (e : Effect) → side_effect r s move e ≡ way_phase r s move (way_of e)
unfolding side_effect
side_effect-is r s move (effects.ConfusionChance n) = refl
side_effect-is r s move effects.Disable = refl
side_effect-is r s move effects.Recharge = refl
side_effect-is r s move e = rw (kept_away_effect-is r s move e) refl

pub side_effect-by : (r : Ruling) (s : Side) (move : Move) (e : Effect) (way : Way) → way ≡ way_of e → side_effect r s move e ≡ way_phase r s move way
side_effect-by r s move e way is = rw is (side_effect-is r s move e)

-- A status other than a freeze is inflicted.
pub inflicted : (r : Ruling) (s : Side) (kind : Kind) → is_freeze kind ≡ false → afflict r s kind ≡ inflict (other s) (status_of_kind kind 0) kind
inflicted r s kinds.Freeze e = cc
inflicted r s kinds.Sleep e = refl
inflicted r s kinds.Poison e = refl
inflicted r s kinds.Burn e = refl
inflicted r s kinds.Paralysis e = refl

pub frozen : (r : Ruling) (s : Side) (kind : Kind) → is_freeze kind ≡ true → afflict r s kind ≡ r.freezes s
frozen r s kinds.Freeze e = refl
frozen r s kinds.Sleep e = cc
frozen r s kinds.Poison e = cc
frozen r s kinds.Burn e = cc
frozen r s kinds.Paralysis e = cc

pub flinching-same : (c : ActiveConditions) → SameNumbers (with_flinch c) c
unfolding with_flinch
flinching-same c = record { bide = refl; thrash = refl; trapping = refl; confused = refl; substitute = refl; bad_poison = refl; disabled = refl }

pub recharging-same : (c : ActiveConditions) → SameNumbers (with_recharge c) c
unfolding with_recharge
recharging-same c = record { bide = refl; thrash = refl; trapping = refl; confused = refl; substitute = refl; bad_poison = refl; disabled = refl }

-- By the freeze clause

module _ {g : Frame} {parts : Parts} {events : Telling} where
  pub refuses : (clause : Bool) (s : Side) (p : Progress) → (clause && has_frozen_member (other s) p) ≡ true → Shows g parts events false p
      → Shows g parts events false (freezes_under clause s p)
  unfolding freezes_under freeze_only_one
  refuses true s p e h = if_so (has_frozen_member (other s)) stay (freeze_freely s) e (stays h)
  refuses false s p e h = cc

  pub freezes : (clause : Bool) (s : Side) (p : Progress) → (clause && has_frozen_member (other s) p) ≡ false → Shows g parts events false (freeze_freely s p)
      → Shows g parts events false (freezes_under clause s p)
  unfolding freezes_under freeze_only_one
  freezes true s p e h = if_not (has_frozen_member (other s)) stay (freeze_freely s) e h
  freezes false s p e h = h

-- Setting a condition without a number keeps all numbers.

pub mist-same : (c : ActiveConditions) → SameNumbers (with_mist c) c
unfolding with_mist
mist-same c = record { bide = refl; thrash = refl; trapping = refl; confused = refl; substitute = refl; bad_poison = refl; disabled = refl }

pub focus_energy-same : (c : ActiveConditions) → SameNumbers (with_focus_energy c) c
unfolding with_focus_energy
focus_energy-same c = record { bide = refl; thrash = refl; trapping = refl; confused = refl; substitute = refl; bad_poison = refl; disabled = refl }

pub light_screen-same : (c : ActiveConditions) → SameNumbers (with_light_screen c) c
unfolding with_light_screen
light_screen-same c = record { bide = refl; thrash = refl; trapping = refl; confused = refl; substitute = refl; bad_poison = refl; disabled = refl }

pub reflect-same : (c : ActiveConditions) → SameNumbers (with_reflect c) c
unfolding with_reflect
reflect-same c = record { bide = refl; thrash = refl; trapping = refl; confused = refl; substitute = refl; bad_poison = refl; disabled = refl }

pub seed-same : (c : ActiveConditions) → SameNumbers (with_seed c) c
unfolding with_seed
seed-same c = record { bide = refl; thrash = refl; trapping = refl; confused = refl; substitute = refl; bad_poison = refl; disabled = refl }
