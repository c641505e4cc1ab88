-- The results of early and late effects, by the effect of the move.
use Rattle.std.proofs.Common.{◌≡◌}
use Rattle.gen1_layout.proofs.Words.{Bool, Phase, Progress, Side, ap, false, refl, stop, true, ℕ, ◌▸◌}
use Rattle.std.proofs.lemmas.Bool.{false≢true}
use Rattle.gen1_tables.specs.declared.effect.Effect.{Effect}
use Rattle.gen1_tables.specs.declared.effect.Stat.{Stat}
use Rattle.gen1_machine.specs.LateEffects.{is_late, late_effect, lower_foes_stat, put_to_sleep, start_bide}
use Rattle.gen1_machine.specs.Moves.{Move}
use Rattle.gen1_machine.specs.Progress.{fail}
use Rattle.gen1_machine.specs.Ruling.{fall_asleep, sleep_freely, sleep_only_one, sleeps_under, Ruling}
use Rattle.gen1_machine.specs.Sides.{other}
use Rattle.gen1_machine.specs.StageShift.{raise_stage}
use Rattle.gen1_machine.specs.EarlyEffects.{confuse_foe, convert, early_effect, haze, heal, make_substitute, paralyse_foe, poison_foe, seed_foe, set_focus_energy, set_mist, set_screen, splash}
use Rattle.gen1_effects.specs.declared.early_effects.Way.{Way}
use Rattle.gen1_effects.specs.EarlyEffects.{way_of}
use Rattle.gen1_tables.specs.declared.effect.Effect.TheVariants as effects
use Rattle.gen1_effects.specs.declared.early_effects.Way.TheVariants as ways

module _ (r : Ruling) (s : Side) (move : Move) (e : Effect) (p : Progress) where
  -- The action ends with the result of the effect.
  ends_with : (f : Phase) → late_effect r s move e ≡ f → (late_effect r s move e ▸ stop) p ≡ (f ▸ stop) p
  ends_with f so = ap (λ (h : Phase). (h ▸ stop) p) so

  pub raises : (stat : Stat) (by : ℕ) → e ≡ effects.StatUp stat by → (late_effect r s move e ▸ stop) p ≡ (raise_stage s s stat by (fail s) ▸ stop) p
  unfolding late_effect
  raises stat by is = ends_with (raise_stage s s stat by (fail s)) (ap (late_effect r s move) is)

  pub lowers : (stat : Stat) (by : ℕ) → e ≡ effects.StatDown stat by → (late_effect r s move e ▸ stop) p ≡ (lower_foes_stat s move stat by ▸ stop) p
  unfolding late_effect
  lowers stat by is = ends_with (lower_foes_stat s move stat by) (ap (late_effect r s move) is)

  pub sleeps : e ≡ effects.InflictSleep → (late_effect r s move e ▸ stop) p ≡ (put_to_sleep r s move ▸ stop) p
  unfolding late_effect
  sleeps is = ends_with (put_to_sleep r s move) (ap (late_effect r s move) is)

  pub begins_bide : e ≡ effects.Bide → (late_effect r s move e ▸ stop) p ≡ (start_bide s ▸ stop) p
  unfolding late_effect
  begins_bide is = ends_with (start_bide s) (ap (late_effect r s move) is)

-- These are all the late effects.
pub no_other : (e : Effect) → is_late e ≡ true → ((stat : Stat) (by : ℕ) → e ≡ effects.StatUp stat by → ⊥)
    → ((stat : Stat) (by : ℕ) → e ≡ effects.StatDown stat by → ⊥) → (e ≡ effects.InflictSleep → ⊥) → (e ≡ effects.Bide → ⊥) → ⊥
no_other (effects.StatUp stat by) tie up down sleep bide = up stat by refl
no_other (effects.StatDown stat by) tie up down sleep bide = down stat by refl
no_other effects.InflictSleep tie up down sleep bide = sleep refl
no_other effects.Bide tie up down sleep bide = bide refl
no_other _ tie up down sleep bide = false≢true tie

-- Sleep by the rules of the battle

pub sleeps-one : (clause : Bool) (s : Side) (p : Progress) → clause ≡ true → sleeps_under clause s p ≡ sleep_only_one s p
unfolding sleeps_under
sleeps-one clause s p is = ap (λ (b : Bool). sleeps_under b s p) is

pub sleeps-any : (clause : Bool) (s : Side) (p : Progress) → clause ≡ false → sleeps_under clause s p ≡ fall_asleep false (other s) p
unfolding sleeps_under sleep_freely
sleeps-any clause s p is = ap (λ (b : Bool). sleeps_under b s p) is

-- An early effect is the effect of its way.

abbrev pub early_by : Side → Move → Way → Phase
early_by s move ways.Fails = fail s
early_by s move ways.Conversion = convert s
early_by s move ways.Mist = set_mist s
early_by s move ways.FocusEnergy = set_focus_energy s
early_by s move ways.Screen = set_screen s move
early_by s move ways.Haze = haze s
early_by s move ways.Confusion = confuse_foe s move
early_by s move ways.Heal = heal s move
early_by s move ways.Poison = poison_foe s move
early_by s move ways.Paralysis = paralyse_foe s move
early_by s move ways.LeechSeed = seed_foe s move
early_by s move ways.Substitute = make_substitute s
early_by s move ways.Splash = splash s

pub early-by : (s : Side) (move : Move) (e : Effect) (way : Way) → way_of e ≡ way → early_effect s move e ≡ early_by s move way
unfolding early_effect
early-by s move effects.Conversion way is = ap (early_by s move) is
early-by s move effects.Mist way is = ap (early_by s move) is
early-by s move effects.FocusEnergy way is = ap (early_by s move) is
early-by s move effects.Screen way is = ap (early_by s move) is
early-by s move effects.Haze way is = ap (early_by s move) is
early-by s move effects.InflictConfusion way is = ap (early_by s move) is
early-by s move effects.Heal way is = ap (early_by s move) is
early-by s move effects.InflictPoison way is = ap (early_by s move) is
early-by s move effects.InflictParalysis way is = ap (early_by s move) is
early-by s move effects.LeechSeed way is = ap (early_by s move) is
early-by s move effects.Splash way is = ap (early_by s move) is
early-by s move effects.Substitute way is = ap (early_by s move) is
early-by s move _ way is = ap (early_by s move) is
