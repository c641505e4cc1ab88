-- What the odds say of the machine's own phases: of the hit test's draw, which values make a use hit. Each law is the
-- contract of a function in src/laws.rt.
use Rattle.std.specs.Prelude.{Bool, None, Option, Some, false, if◌then◌else◌, is_some, nat_le, nat_lt, not, true, ℕ, ◌+◌, ◌||◌, ◌≡◌, ◌≤◌}
use Rattle.gen1_tables.specs.declared.effect.Effect.{Effect}
use Rattle.gen1_tables.specs.declared.effect.Effect.TheVariants as effects
use Rattle.gen1_rolls.specs.Streams.{byte_at, first, IsStream}
use Rattle.gen1_machine.specs.declared.side.Pick.{Pick}
use Rattle.gen1_machine.specs.declared.side.Side.{Side}
use Rattle.gen1_machine.specs.Action.{gate_or_held}
use Rattle.gen1_machine.specs.Conditions.{without_flinch}
use Rattle.gen1_machine.specs.Counter.{counter}
use Rattle.gen1_machine.specs.Damage.{is_factor}
use Rattle.gen1_machine.specs.EarlyEffects.{confuse_foe, paralyse_foe, poison_foe, seed_foe}
use Rattle.gen1_machine.specs.FixedDamage.{fixed_damage, knock_out}
use Rattle.gen1_machine.specs.HitTest.{hit_or_miss, is_immune, must_hit}
use Rattle.gen1_machine.specs.Landing.{breaks}
use Rattle.gen1_machine.specs.Moves.{Move}
use Rattle.gen1_machine.specs.Progress.{has_missed, on_conditions, Phase, Progress}
use Rattle.gen1_machine.specs.Ruling.{ruling_of}
use Rattle.gen1_machine.specs.SideEffects.{side_effect}
use Rattle.gen1_machine.specs.Sides.{other}
use Rattle.gen1_machine.specs.StageShift.{stage_in}
use Rattle.gen1_machine.specs.State.{active_in, conditions_in, underway_in, Field, Terms}
use Rattle.gen1_machine.specs.Valid.{IsField}
use Rattle.gen1_multiturn.specs.MoveHits.{can_counter_in}
use Rattle.gen1_odds.specs.declared.reasons.Reason.{Reason}
use Rattle.gen1_odds.specs.Acting.{is_stopped, still_confused}
use Rattle.gen1_odds.specs.KnockOut.{needed}
use Rattle.gen1_odds.specs.Odds.{passes, side_effect_draws}
use Rattle.gen1_odds.specs.Trials.{confusion_reason, paralysis_reason, poison_reason, seed_reason, goes_on_in, has_status_in, is_slower_in}

-- An action of a side that has settled its move, and has neither missed nor stopped.
pub record Acting (s : Side) (move : Move) (p : Progress) : Type 0 where
  pub moves_on : p.stopped ≡ false
  pub aims : p.action.missed ≡ false
  pub knows : p.action.going_on ≡ goes_on_in s move p.field

-- Whether a use misses with this draw of the hit test.
abbrev pub misses : Side → Move → Field → ℕ → Bool
misses s move f draw = not (passes s move f draw)

-- The same for a use that may fail for a reason.
abbrev pub fails_by : Option Reason → Side → Move → Field → ℕ → Bool
fails_by (Some why) s move f draw = true
fails_by None s move f draw = misses s move f draw

-- The hit test misses by its draw, which is the next.
abbrev pub TestCounts : Type 0
TestCounts = (s : Side) (move : Move) (p : Progress) → Acting s move p
    → has_missed (hit_or_miss s move p) ≡ misses s move p.field (byte_at p.stream p.drawn)

-- So does the test whose miss ends the action.
abbrev pub MustHitCounts : Type 0
MustHitCounts = (s : Side) (move : Move) (p : Progress) → Acting s move p
    → (must_hit s move p).stopped ≡ misses s move p.field (byte_at p.stream p.drawn)

-- Fixed damage comes after the hit test.
abbrev pub FixedCounts : Type 0
FixedCounts = (s : Side) (move : Move) (p : Progress) → Acting s move p
    → has_missed (fixed_damage s move p) ≡ misses s move p.field (byte_at p.stream p.drawn)

-- Counter draws for a critical hit first. Without a damage to return it misses in any case.
abbrev pub CounterCounts : Type 0
CounterCounts = (s : Side) (move : Move) (p : Progress) → Acting s move p
    → has_missed (counter s move p)
    ≡ (not (can_counter_in s p.field) || misses s move p.field (byte_at p.stream (p.drawn + 1)))

-- A one-hit move draws for a critical hit, and until a factor. That of a slower user misses in any case, and so does one
-- of a type without effect.

abbrev pub SlowerMisses : Type 0
SlowerMisses = (s : Side) (move : Move) (p : Progress) → Acting s move p
    → is_slower_in s p.field ≡ true → has_missed (knock_out s move p) ≡ true

abbrev pub ImmuneMisses : Type 0
ImmuneMisses = (s : Side) (move : Move) (p : Progress) → Acting s move p
    → is_immune move.kind (active_in (other s) p.field) ≡ true → has_missed (knock_out s move p) ≡ true

abbrev pub OneHitCounts : Type 0
OneHitCounts = (s : Side) (move : Move) (p : Progress) (m : ℕ) → Acting s move p
    → is_slower_in s p.field ≡ false
    → is_immune move.kind (active_in (other s) p.field) ≡ false
    → first p.stream (p.drawn + 1) is_factor ≡ Some m
    → has_missed (knock_out s move p) ≡ misses s move p.field (byte_at p.stream (m + 1))

-- Moves that give the foe a status or a condition fail for a reason, or by the draw.

abbrev pub StatusCounts : (Side → Move → Phase) → (Side → Move → Field → Option Reason) → Type 0
StatusCounts phase reason = (s : Side) (move : Move) (p : Progress) → Acting s move p
    → (phase s move p).stopped ≡ fails_by (reason s move p.field) s move p.field (byte_at p.stream p.drawn)

abbrev pub PoisonCounts : Type 0
PoisonCounts = StatusCounts poison_foe poison_reason

abbrev pub ParalysisCounts : Type 0
ParalysisCounts = StatusCounts paralyse_foe paralysis_reason

abbrev pub SeedCounts : Type 0
SeedCounts = StatusCounts seed_foe seed_reason

abbrev pub ConfusionCounts : Type 0
ConfusionCounts = StatusCounts confuse_foe confusion_reason

-- A side effect shows after a hit exactly by the draws that are counted, where it didn't show before.

abbrev pub shows : Effect → Side → Field → Field → Bool
shows (effects.ConfusionChance n) s before after = is_some (conditions_in (other s) after).confused
shows (effects.FlinchChance n) s before after = (conditions_in (other s) after).flinch
shows effects.Recharge s before after = (underway_in s after).recharge
shows (effects.StatDownChance stat) s before after = nat_lt (stage_in stat (other s) after) (stage_in stat (other s) before)
shows (effects.PoisonChance n) s before after = has_status_in (other s) after
shows effects.Twineedle s before after = has_status_in (other s) after
shows (effects.BurnChance n) s before after = has_status_in (other s) after
shows effects.FreezeChance s before after = has_status_in (other s) after
shows (effects.ParalysisChance n) s before after = has_status_in (other s) after
shows _ s before after = false

-- A hit on a valid field, whose side effect comes next.
pub record Hitting (t : Terms) (s : Side) (move : Move) (p : Progress) : Type 0 where
  pub moves_on : p.stopped ≡ false
  pub valid : IsField t p.field
  pub bytes : IsStream p.stream
  pub unharmed : shows move.effect s p.field p.field ≡ false

abbrev pub SideEffectCounts : Type 0
SideEffectCounts = (t : Terms) (s : Side) (move : Move) (p : Progress) → Hitting t s move p
    → shows move.effect s p.field (side_effect (ruling_of t) s move move.effect p).field
    ≡ nat_lt (byte_at p.stream p.drawn) (side_effect_draws t.rules s move p.field)

-- The gate of a turn that begins stops a member by the draws that do not let it act. The draw for its paralysis comes after
-- that for its confusion.

abbrev pub after_confusion : Option ℕ → ℕ → ℕ
after_confusion confused n = if still_confused confused then n + 1 else n

abbrev pub GateCounts : Type 0
GateCounts = (s : Side) (pick : Pick) (p : Progress) → p.stopped ≡ false
    → let paralysis = after_confusion (conditions_in s p.field).confused p.drawn in
    (gate_or_held s pick (on_conditions s without_flinch p)).stopped
    ≡ is_stopped s pick p.field (byte_at p.stream p.drawn) (byte_at p.stream paralysis)

-- A substitute breaks by the damage that is needed, and by no less. It has at most 249 HP.
abbrev pub BreaksIfNeeded : Type 0
BreaksIfNeeded = (substitute hp damage : ℕ) → substitute ≤ 249
    → breaks damage substitute ≡ nat_le (needed (Some substitute) hp) damage
