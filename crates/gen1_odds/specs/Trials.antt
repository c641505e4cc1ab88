-- The kinds of use of a move, one for each rule that decides whether it hits, what a use finds in a battle, and why a
-- use can't hit.
use Rattle.std.specs.Prelude.{Bool, Option, if◌then◌else◌, is_some, nat_lt, not, ℕ, ◌&&◌, ◌==◌, ◌≡◌, None, Some, false, nat_le, true, ◌-◌, ◌/◌, ◌||◌}
use Rattle.gen1_tables.specs.declared.effect.Effect.{Effect}
use Rattle.gen1_tables.specs.declared.effect.Stat.TheVariants.{Speed}
use Rattle.gen1_tables.specs.Effects.{charges, traps}
use Rattle.gen1_stats.specs.Members.{is_healthy, is_asleep, is_marked}
use Rattle.gen1_machine.specs.declared.side.Pick.TheVariants.{Continue}
use Rattle.gen1_machine.specs.declared.side.Side.{Side}
use Rattle.gen1_machine.specs.Action.{keeps_going, move_taken_in}
use Rattle.gen1_machine.specs.CurrentStats.{now_in}
use Rattle.gen1_machine.specs.Moves.{accuracy_byte, Move, light_screen_move, psywave_move}
use Rattle.gen1_machine.specs.Rules.{Rules}
use Rattle.gen1_machine.specs.Sides.{other}
use Rattle.gen1_machine.specs.State.{active_in, conditions_in, status_in, underway_in, Field, any_living, has_fallen_in, has_type, member_in, party}
use Rattle.gen1_layout.specs.Parts.{Parts}
use Rattle.gen1_layout.specs.Shows.{Setting, Within}
use Rattle.gen1_multiturn.specs.GoingOn.{energy_let_out}
use Rattle.gen1_odds.specs.declared.sights.Sight.{Sight}
use Rattle.gen1_odds.specs.declared.sights.Trial.{Trial}
use Rattle.gen1_tables.specs.declared.effect.Stat.{Stat}
use Rattle.gen1_tables.specs.declared.types.Element.TheVariants.{Electric, Grass, Ground, Poison}
use Rattle.gen1_tables.specs.Types.{same_type}
use Rattle.gen1_stats.specs.declared.member.Status.{Status}
use Rattle.gen1_machine.specs.Damage.{before_types, numbers_in, type_steps, DamageNumbers}
use Rattle.gen1_machine.specs.EarlyEffects.{resists_healing}
use Rattle.gen1_machine.specs.HitTest.{eats_dreams, is_immune, settled_hit_in}
use Rattle.gen1_machine.specs.SideEffects.{has_pp}
use Rattle.gen1_machine.specs.StageShift.{stage_in, stands_at}
use Rattle.gen1_multiturn.specs.MoveHits.{countered}
use Rattle.gen1_odds.specs.declared.reasons.Reason.{Reason}
use Rattle.gen1_tables.specs.declared.effect.Effect.TheVariants as effects
use Rattle.gen1_odds.specs.declared.sights.Sight.TheVariants as sights
use Rattle.gen1_odds.specs.declared.sights.Trial.TheVariants as trials
use Rattle.gen1_odds.specs.declared.reasons.Reason.TheVariants as reasons

-- The kind of a move's use, by its effect. Damage by the usual numbers is the last.
abbrev pub trial_of : Effect → Trial
trial_of effects.LeftOut = trials.LeftOut
trial_of effects.AlwaysFails = trials.AlwaysFails
trial_of effects.OneHitKnockOut = trials.OneHit
trial_of effects.FixedDamage = trials.Fixed
trial_of effects.SuperFang = trials.Fixed
trial_of effects.Counter = trials.Counter
trial_of effects.Bide = trials.Bide
trial_of effects.InflictSleep = trials.Sleep
trial_of effects.InflictConfusion = trials.Confusion
trial_of effects.InflictPoison = trials.Poison
trial_of effects.InflictParalysis = trials.Paralysis
trial_of effects.LeechSeed = trials.LeechSeed
trial_of effects.Disable = trials.Disable
trial_of (effects.StatUp stat stages) = trials.Raise stat
trial_of (effects.StatDown stat stages) = trials.Lower stat
trial_of effects.Conversion = trials.Conversion
trial_of effects.Mist = trials.Mist
trial_of effects.FocusEnergy = trials.FocusEnergy
trial_of effects.Screen = trials.Screen
trial_of effects.Heal = trials.Heal
trial_of effects.Substitute = trials.Substitute
trial_of effects.Haze = trials.Always
trial_of effects.Splash = trials.Always
trial_of _ = trials.Usual

-- Whenever the parts represent a field, a value is this value of the rules and the field.
abbrev pub ReadsUnder : {A : Type 0} → Parts → A → (Rules → Field → A) → Type 0
ReadsUnder parts value read = (g : Setting) (f : Field) → Within g parts f → value ≡ read g.terms.rules f

-- A move continues if it is the one that rage, thrashing or trapping continues. Its accuracy is then the kept one.

abbrev pub goes_on_in : Side → Move → Field → Bool
goes_on_in s move f = keeps_going (underway_in s f) && (move_taken_in s Continue f).number == move.number

abbrev pub base_in : Side → Move → Field → ℕ
base_in s move f = if goes_on_in s move f then (active_in s f).kept_accuracy else accuracy_byte move

-- Trapping that continues lands its last damage again, without a test.
abbrev pub traps_on_in : Side → Move → Field → Bool
traps_on_in s move f = traps move.effect && goes_on_in s move f

-- A move that charges strikes in the action after it has charged.
abbrev pub charges_first : Side → Move → Field → Bool
charges_first s move f = charges move.effect && not (underway_in s f).charging

-- What Bide lets out in this action, or none if it stores or only begins.
abbrev pub released_in : Side → Field → Option ℕ
released_in s f = energy_let_out f.last_damage (underway_in s f).bide

-- Whether a condition is on.
abbrev pub is_on_in : Sight → Side → Field → Bool
is_on_in sights.Trapping s f = is_some (underway_in s f).trapping
is_on_in sights.Charging s f = (underway_in s f).charging
is_on_in sights.Invulnerable s f = (conditions_in s f).invulnerable
is_on_in sights.Mist s f = (conditions_in s f).mist
is_on_in sights.FocusEnergy s f = (conditions_in s f).focus_energy
is_on_in sights.Recharge s f = (underway_in s f).recharge
is_on_in sights.Seeded s f = (conditions_in s f).seeded
is_on_in sights.LightScreen s f = (conditions_in s f).light_screen
is_on_in sights.Reflect s f = (conditions_in s f).reflect

-- The machine's tests of a battle in progress, for its field

abbrev pub is_slower_in : Side → Field → Bool
is_slower_in s f = nat_lt (now_in Speed s f) (now_in Speed (other s) f)

abbrev pub has_status_in : Side → Field → Bool
has_status_in s f = not (is_healthy (status_in s f))

abbrev pub has_substitute_in : Side → Field → Bool
has_substitute_in s f = is_some (conditions_in s f).substitute

-- Why a use of a move can't hit, or none if it can (docs/MECHANICS.md, "Hit test", "Early effects", "Late effects", "Side
-- effects"). Each reason comes in the order of the machine's phase.

-- The first of two reasons.
abbrev pub first : Option Reason → Option Reason → Option Reason
first (Some why) after = Some why
first None after = after

-- The hit test, where it misses without a draw

abbrev pub why_missed : Effect → Status → Bool → Reason
why_missed effect foe_status is_away =
    if eats_dreams effect && not (is_asleep foe_status) then reasons.Awake
    else if is_away then reasons.Invulnerable else reasons.Mist

abbrev pub why_settled : Option Bool → Reason → Option Reason
why_settled (Some false) why = Some why
why_settled _ why = None

abbrev pub settled_reason : Side → Move → Field → Option Reason
settled_reason s move f =
    why_settled (settled_hit_in s move f)
    (why_missed move.effect (status_in (other s) f) (conditions_in (other s) f).invulnerable)

-- The usual damage. A damage of 0 is a miss, and a divisor of 0 ends the battle. A critical hit may hurt where another
-- doesn't.

abbrev pub hurts : DamageNumbers → Option ℕ → Bool
hurts n (Some damage) = nat_lt 0 (type_steps damage n)
hurts n None = false

abbrev pub hurts_in : Side → Move → Bool → Field → Bool
hurts_in s move critical f = hurts (numbers_in s move critical f) (before_types (numbers_in s move critical f))

abbrev pub why_harmless : Side → Move → Field → Reason
why_harmless s move f =
    if not (is_some (before_types (numbers_in s move false f))) then reasons.Fault
    else if is_immune move.kind (active_in (other s) f) then reasons.Immune else reasons.NoDamage

abbrev pub usual_reason : Side → Move → Field → Option Reason
usual_reason s move f =
    if hurts_in s move false f || hurts_in s move true f then settled_reason s move f else Some (why_harmless s move f)

-- Damage by its own rule

abbrev pub one_hit_reason : Side → Move → Field → Option Reason
one_hit_reason s move f =
    if is_slower_in s f then Some reasons.Slower
    else if is_immune move.kind (active_in (other s) f) then Some reasons.Immune else settled_reason s move f

-- Psywave at level 1 ends the battle.
abbrev pub fixed_reason : Side → Move → Field → Option Reason
fixed_reason s move f =
    first (settled_reason s move f)
    (if move.number == psywave_move && nat_le (member_in s f).level 1 then Some reasons.Fault else None)

-- Counter, by the damage that it returns.

abbrev pub counter_by : Option ℕ → Option Reason → Option Reason
counter_by (Some damage) after = after
counter_by None after = Some reasons.NothingToCounter

abbrev pub counter_reason : Side → Move → Field → Option Reason
counter_reason s move f = counter_by (countered s f) (settled_reason s move f)

abbrev pub bide_by : Option ℕ → Option Reason
bide_by None = None
bide_by (Some damage) = if damage == 0 then Some reasons.NoEnergy else None

-- A status of the foe

-- Under the sleep clause.
abbrev pub clause_reason : Rules → Side → Field → Option Reason
clause_reason r s f =
    if r.sleep_clause && any_living (λ m. is_marked m.status) (party (other s) f) then Some reasons.SleepClause else None

-- A foe that has to recharge falls asleep without any other test.
abbrev pub sleep_reason : Rules → Side → Move → Field → Option Reason
sleep_reason r s move f =
    if (underway_in (other s) f).recharge then clause_reason r s f
    else if has_status_in (other s) f then Some reasons.HasStatus
    else first (settled_reason s move f) (clause_reason r s f)

abbrev pub poison_reason : Side → Move → Field → Option Reason
poison_reason s move f =
    if has_substitute_in (other s) f then Some reasons.Substitute
    else if has_status_in (other s) f then Some reasons.HasStatus
    else if has_type Poison (active_in (other s) f) then Some reasons.OwnType else settled_reason s move f

abbrev pub paralysis_reason : Side → Move → Field → Option Reason
paralysis_reason s move f =
    if has_status_in (other s) f then Some reasons.HasStatus
    else if same_type move.kind Electric && has_type Ground (active_in (other s) f) then Some reasons.OwnType
    else settled_reason s move f

-- A condition of the foe

abbrev pub confusion_reason : Side → Move → Field → Option Reason
confusion_reason s move f =
    if has_substitute_in (other s) f then Some reasons.Substitute
    else first (settled_reason s move f) (if is_some (conditions_in (other s) f).confused then Some reasons.Confused else None)

abbrev pub seed_reason : Side → Move → Field → Option Reason
seed_reason s move f =
    first (settled_reason s move f)
    (if (conditions_in (other s) f).seeded then Some reasons.Seeded
    else if has_type Grass (active_in (other s) f) then Some reasons.OwnType else None)

abbrev pub disable_reason : Side → Move → Field → Option Reason
disable_reason s move f =
    first (settled_reason s move f)
    (if is_some (conditions_in (other s) f).disabled then Some reasons.Disabled
    else if has_pp (member_in (other s) f).moves then None else Some reasons.NoPp)

-- Stages. A stat of 999 doesn't rise, and a stat of 1 doesn't fall.

abbrev pub is_highest : Stat → Side → Field → Bool
is_highest stat s f = nat_le 12 (stage_in stat s f) || stands_at 999 stat s f

abbrev pub is_lowest : Stat → Side → Field → Bool
is_lowest stat s f = nat_le (stage_in stat s f) 0 || stands_at 1 stat s f

abbrev pub raise_reason : Stat → Side → Field → Option Reason
raise_reason stat s f = if is_highest stat s f then Some reasons.Stage else None

abbrev pub lower_reason : Stat → Side → Move → Field → Option Reason
lower_reason stat s move f =
    if has_substitute_in (other s) f then Some reasons.Substitute
    else first (settled_reason s move f) (if is_lowest stat (other s) f then Some reasons.Stage else None)

-- The user alone

abbrev pub if_up : Bool → Option Reason
if_up is_up = if is_up then Some reasons.AlreadyUp else None

abbrev pub screen_reason : Side → Move → Field → Option Reason
screen_reason s move f =
    if move.number == light_screen_move then if_up (conditions_in s f).light_screen else if_up (conditions_in s f).reflect

abbrev pub conversion_reason : Side → Field → Option Reason
conversion_reason s f = if (conditions_in (other s) f).invulnerable then Some reasons.Invulnerable else None

abbrev pub heal_reason : Side → Field → Option Reason
heal_reason s f = if resists_healing ((member_in s f).max - (member_in s f).hp) then Some reasons.Health else None

abbrev pub substitute_reason : Side → Field → Option Reason
substitute_reason s f =
    if has_substitute_in s f then Some reasons.AlreadyUp
    else if nat_lt (member_in s f).hp ((member_in s f).max / 4) then Some reasons.Health else None

-- By the kind of the use

abbrev pub reason_by : Rules → Side → Move → Field → Trial → Option Reason
reason_by r s move f trials.LeftOut = Some reasons.LeftOut
reason_by r s move f trials.AlwaysFails = Some reasons.AlwaysFails
reason_by r s move f trials.OneHit = one_hit_reason s move f
reason_by r s move f trials.Fixed = fixed_reason s move f
reason_by r s move f trials.Counter = counter_reason s move f
reason_by r s move f trials.Bide = bide_by (released_in s f)
reason_by r s move f trials.Sleep = sleep_reason r s move f
reason_by r s move f trials.Confusion = confusion_reason s move f
reason_by r s move f trials.Poison = poison_reason s move f
reason_by r s move f trials.Paralysis = paralysis_reason s move f
reason_by r s move f trials.LeechSeed = seed_reason s move f
reason_by r s move f trials.Disable = disable_reason s move f
reason_by r s move f (trials.Raise stat) = raise_reason stat s f
reason_by r s move f (trials.Lower stat) = lower_reason stat s move f
reason_by r s move f trials.Conversion = conversion_reason s f
reason_by r s move f trials.Mist = if_up (conditions_in s f).mist
reason_by r s move f trials.FocusEnergy = if_up (conditions_in s f).focus_energy
reason_by r s move f trials.Screen = screen_reason s move f
reason_by r s move f trials.Heal = heal_reason s f
reason_by r s move f trials.Substitute = substitute_reason s f
reason_by r s move f trials.Always = None
reason_by r s move f trials.Usual = usual_reason s move f

-- Nobody acts on a member that has fallen. Trapping that continues lands in any case.
abbrev pub reason_in : Rules → Side → Move → Field → Option Reason
reason_in r s move f =
    if has_fallen_in s f || has_fallen_in (other s) f then Some reasons.Fallen
    else if traps_on_in s move f then None
    else reason_by r s move f (trial_of move.effect)

-- The number of a reason, or 0 if the use can hit.

abbrev pub reason_number : Reason → ℕ
reason_number reasons.Fallen = 1
reason_number reasons.LeftOut = 2
reason_number reasons.AlwaysFails = 3
reason_number reasons.Immune = 4
reason_number reasons.NoDamage = 5
reason_number reasons.Fault = 6
reason_number reasons.Slower = 7
reason_number reasons.NothingToCounter = 8
reason_number reasons.NoEnergy = 9
reason_number reasons.Awake = 10
reason_number reasons.Invulnerable = 11
reason_number reasons.Mist = 12
reason_number reasons.Substitute = 13
reason_number reasons.HasStatus = 14
reason_number reasons.OwnType = 15
reason_number reasons.Confused = 16
reason_number reasons.Seeded = 17
reason_number reasons.Disabled = 18
reason_number reasons.NoPp = 19
reason_number reasons.Stage = 20
reason_number reasons.SleepClause = 21
reason_number reasons.AlreadyUp = 22
reason_number reasons.Health = 23

abbrev pub reason_code : Option Reason → ℕ
reason_code None = 0
reason_code (Some why) = reason_number why
