-- The odds of a use of a move, for the present state of two members (docs/MECHANICS.md, "Critical hits" to "Hit test",
-- "Fixed damage and one-hit moves", "Many hits").
use Rattle.std.specs.Prelude.{Bool, List, None, Option, Some, [], count_by, false, if◌then◌else◌, max, min, nat_lt, not, replicate, true, unwrap_or, ℕ, ◌&&◌, ◌*◌, ◌-◌, ◌/◌, ◌==◌, ◌||◌, ◌≡◌, ◌≤◌, ◌⊎◌, ◌∷◌, is_some}
use Rattle.std.specs.List.{range_with_len}
use Rattle.gen1_tables.specs.declared.effect.Effect.{Effect}
use Rattle.gen1_machine.specs.declared.side.Side.{Side}
use Rattle.gen1_machine.specs.CriticalHits.{critical_bound_in, rotated_left_3}
use Rattle.gen1_machine.specs.Damage.{numbers_in}
use Rattle.gen1_machine.specs.FixedDamage.{half_hp}
use Rattle.gen1_machine.specs.HitEffects.{recoil_of}
use Rattle.gen1_machine.specs.HitTest.{scaled_in, settled_hit_in}
use Rattle.gen1_machine.specs.Moves.{dragon_rage, psywave_move, sonic_boom, super_fang, Move}
use Rattle.gen1_machine.specs.Rules.{Rules}
use Rattle.gen1_machine.specs.Sides.{other}
use Rattle.gen1_machine.specs.State.{member_in, underway_in, Field, active_in, any_living, conditions_in, has_type, party}
use Rattle.gen1_hits.specs.DamageNumbers.{damages, has_usual_damage}
use Rattle.gen1_multiturn.specs.MoveHits.{countered}
use Rattle.gen1_odds.specs.declared.odds.HitCount.{HitCount}
use Rattle.gen1_odds.specs.declared.odds.HitCount.TheVariants.{Once, Several, Twice}
use Rattle.gen1_odds.specs.declared.odds.Damages.{Damages}
use Rattle.gen1_odds.specs.declared.odds.Odds.{Odds}
use Rattle.gen1_odds.specs.declared.reasons.Reason.{Reason}
use Rattle.gen1_odds.specs.declared.sights.Trial.{Trial}
use Rattle.gen1_odds.specs.Trials.{reason_code, reason_in, is_lowest, base_in, charges_first, released_in, traps_on_in, trial_of, has_status_in, has_substitute_in}
use Rattle.gen1_tables.specs.declared.types.Element.TheVariants.{Poison}
use Rattle.gen1_stats.specs.Members.{is_frozen}
use Rattle.gen1_tables.specs.declared.effect.Effect.TheVariants as effects
use Rattle.gen1_odds.specs.declared.sights.Trial.TheVariants as trials

-- The usual damage

abbrev pub no_damages : ℕ → Damages
no_damages code = record { numbers = replicate 39 0; count = 0; code = code }

abbrev pub damages_or : Option (List ℕ) → Damages
damages_or (Some list) = record { numbers = list; count = 39; code = 0 }
damages_or None = no_damages 49

-- Trapping that continues repeats its damage, in place of the usual.
abbrev pub deals_usual : Side → Move → Field → Bool
deals_usual s move f = has_usual_damage move && not (traps_on_in s move f)

-- The damage at each factor, for a move with the usual damage.
abbrev pub damages_in : Side → Move → Bool → Field → Damages
damages_in side move critical f =
    if deals_usual side move f then damages_or (damages (numbers_in side move critical f)) else no_damages 48

-- Damage by its own rule: from the first number to the second

-- Psywave deals at least 1, and less than one and a half times the level. At level 1 the range is empty.
abbrev pub psywave_range : ℕ → ℕ × ℕ
psywave_range level = (min 1 (level * 3 / 2 - 1), level * 3 / 2 - 1)

-- A move that isn't named here deals the level.
abbrev pub fixed_by : ℕ → Side → Field → ℕ × ℕ
fixed_by move s f =
    if move == sonic_boom then (20, 20)
    else if move == dragon_rage then (40, 40)
    else if move == psywave_move then psywave_range (member_in s f).level
    else if move == super_fang then (half_hp (member_in (other s) f), half_hp (member_in (other s) f))
    else ((member_in s f).level, (member_in s f).level)

abbrev pub twin : ℕ → ℕ × ℕ
twin n = (n, n)

abbrev pub fixed_of : Trial → ℕ → Side → Field → ℕ × ℕ
fixed_of trials.OneHit move s f = (65535, 65535)
fixed_of trials.Fixed move s f = fixed_by move s f
fixed_of trials.Counter move s f = twin (unwrap_or (countered s f) 0)
fixed_of trials.Bide move s f = twin (unwrap_or (released_in s f) 0)
fixed_of _ move s f = (0, 0)

abbrev pub fixed_in : Side → Move → Field → ℕ × ℕ
fixed_in s move f = if traps_on_in s move f then twin f.last_damage else fixed_of (trial_of move.effect) move.number s f

-- Which moves take the hit test

-- Moves that fail, or that affect only their user.
abbrev pub acts_untested : Effect → Bool
acts_untested effects.AlwaysFails = true
acts_untested effects.Bide = true
acts_untested effects.Conversion = true
acts_untested effects.FocusEnergy = true
acts_untested effects.Haze = true
acts_untested effects.Heal = true
acts_untested effects.LeftOut = true
acts_untested effects.Mist = true
acts_untested effects.Screen = true
acts_untested effects.Splash = true
acts_untested (effects.StatUp stat stages) = true
acts_untested effects.Substitute = true
acts_untested _ = false

abbrev pub takes_hit_test : Move → Bool
takes_hit_test move = not (acts_untested move.effect)

-- Draws

-- How many of the 256 possible draws pass a test.
unfoldable pub how_many : (ℕ → Bool) → ℕ
how_many test = count_by test (range_with_len 0 256)

-- A draw is critical if, with its bits rotated, it is below the bound.
abbrev pub critical_draws : Side → Move → Field → ℕ
critical_draws side move f =
    if deals_usual side move f then how_many (λ draw. nat_lt (rotated_left_3 draw) (critical_bound_in side move f)) else 0

-- A draw hits if it is below the byte. If the test is settled without a draw, all draws hit or none does.
abbrev pub hits_by : Option Bool → ℕ → ℕ → Bool
hits_by (Some hits) byte draw = hits
hits_by None byte draw = nat_lt draw byte

-- Whether a draw passes the hit test, of a new use or of a move that continues.
abbrev pub passes : Side → Move → Field → ℕ → Bool
passes side move f draw = hits_by (settled_hit_in side move f) (scaled_in side (base_in side move f) f) draw

-- A sleep move takes no test against a foe that has to recharge, and trapping that continues takes none at all.

abbrev pub is_sleep : Trial → Bool
is_sleep trials.Sleep = true
is_sleep _ = false

abbrev pub skips_test : Side → Move → Field → Bool
skips_test s move f =
    traps_on_in s move f || (is_sleep (trial_of move.effect) && (underway_in (other s) f).recharge)

abbrev pub is_tested : Side → Move → Field → Bool
is_tested s move f = takes_hit_test move && not (skips_test s move f)

-- How many draws of the hit test make the use hit. Without a test all of them do.
abbrev pub draws_by : Option Reason → Side → Move → Field → ℕ
draws_by (Some why) s move f = 0
draws_by None s move f = if is_tested s move f then how_many (λ draw. passes s move f draw) else 256

abbrev pub hit_draws : Rules → Side → Move → Field → ℕ
hit_draws r s move f = draws_by (reason_in r s move f) s move f

-- Hits

-- How many hits a move makes that has hit.
abbrev pub hit_count : Effect → HitCount
hit_count effects.MultiHit = Several
hit_count effects.DoubleHit = Twice
hit_count effects.Twineedle = Twice
hit_count _ = Once

-- In how many of 8 cases it makes 0, 1, .. 5 hits.
abbrev pub eighths : HitCount → List ℕ
eighths Once = 0 ∷ 8 ∷ 0 ∷ 0 ∷ 0 ∷ 0 ∷ []
eighths Twice = 0 ∷ 0 ∷ 8 ∷ 0 ∷ 0 ∷ 0 ∷ []
eighths Several = 0 ∷ 0 ∷ 3 ∷ 3 ∷ 1 ∷ 1 ∷ []

-- What a damage gives back to the user, and what it costs

abbrev pub drains : Effect → Bool
drains effects.Drain = true
drains effects.DreamEater = true
drains _ = false

abbrev pub recoils : Effect → Bool
recoils effects.Recoil = true
recoils _ = false

abbrev pub drained : Move → ℕ → ℕ
drained move damage = if drains move.effect then max 1 (damage / 2) else 0

abbrev pub recoil : Move → ℕ → ℕ
recoil move damage = if recoils move.effect then recoil_of move damage else 0

-- The whole

abbrev pub flag : Bool → ℕ
flag holds = if holds then 1 else 0

-- Of any bytes, valid or not: damages or the code for having none, the code of a reason, and a flag.

abbrev pub IsCoded : Damages → Type 0
IsCoded d = ((d.count ≡ 39) × (d.code ≡ 0)) ⊎ (d ≡ no_damages 48) ⊎ (d ≡ no_damages 49)

pub record IsListed (o : Odds) : Type 0 where
  pub usual : IsCoded o.usual
  pub critical : IsCoded o.critical
  pub reason : o.reason ≤ 23
  pub charges_first : o.charges_first ≤ 1

abbrev pub odds_in : Rules → Side → Move → Field → Odds
odds_in r side move f = record {
  usual = damages_in side move false f;
  critical = damages_in side move true f;
  critical_draws = critical_draws side move f;
  hit_draws = hit_draws r side move f;
  least = (fixed_in side move f).0;
  most = (fixed_in side move f).1;
  hits = eighths (hit_count move.effect);
  reason = reason_code (reason_in r side move f);
  charges_first = flag (charges_first side move f);
}

-- How many draws give a hit its side effect (docs/MECHANICS.md, "Side effects").

-- None of the draws, where something guards the foe.
abbrev pub unless_guarded : Bool → ℕ → ℕ
unless_guarded guarded bound = if guarded then 0 else bound

abbrev pub poison_draws : Side → Field → ℕ → ℕ
poison_draws foe f bound = unless_guarded (has_status_in foe f || has_type Poison (active_in foe f)) bound

-- A status doesn't replace another, nor does a foe of the move's own type get one.
abbrev pub resists_status : Side → Move → Field → Bool
resists_status s move f = has_status_in (other s) f || has_type move.kind (active_in (other s) f)

-- Under the freeze clause.
abbrev pub resists_freeze : Rules → Side → Field → Bool
resists_freeze r s f = r.freeze_clause && any_living (λ m. is_frozen m.status) (party (other s) f)

-- Of a foe without a substitute, for the effects that a substitute keeps away.
abbrev pub harm_draws : Rules → Side → Move → Field → Effect → ℕ
harm_draws r s move f (effects.PoisonChance n) = poison_draws (other s) f n
harm_draws r s move f effects.Twineedle = poison_draws (other s) f 52
harm_draws r s move f (effects.BurnChance n) = unless_guarded (resists_status s move f) n
harm_draws r s move f effects.FreezeChance = unless_guarded (resists_status s move f || resists_freeze r s f) 26
harm_draws r s move f (effects.ParalysisChance n) = unless_guarded (resists_status s move f) n
harm_draws r s move f (effects.FlinchChance n) = n
harm_draws r s move f (effects.StatDownChance stat) = unless_guarded (is_lowest stat (other s) f) 85
harm_draws r s move f _ = 0

-- Disable does what it does by its hit. Hyper Beam's user has to recharge without a draw.
abbrev pub effect_draws : Rules → Side → Move → Field → Effect → ℕ
effect_draws r s move f (effects.ConfusionChance n) = unless_guarded (is_some (conditions_in (other s) f).confused) n
effect_draws r s move f effects.Disable = 0
effect_draws r s move f effects.Recharge = 256
effect_draws r s move f e = unless_guarded (has_substitute_in (other s) f) (harm_draws r s move f e)

-- A draw below this number gives a hit its side effect, if the foe stands and no substitute broke.
abbrev pub side_effect_draws : Rules → Side → Move → Field → ℕ
side_effect_draws r s move f = effect_draws r s move f move.effect
