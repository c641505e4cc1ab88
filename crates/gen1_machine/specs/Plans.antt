-- What the sides plan in a turn: the move that each is about to use, or is using. Bide, thrashing, trapping,
-- charging, recharging and rage need the move that began them as their explanation. No field holds a move before it
-- is used, so code takes the plan as a premise, and its callers pass it on. It goes from an offered choice (`PlanOf`,
-- `Comes`) to the pick that it becomes (`FitsPick`), and then to the move that is used.
use Rattle.std.specs.Prelude.{List, length, suc, ℕ, ◌≡◌, ◌≢◌}
use Rattle.gen1_tables.specs.declared.effect.Effect.{Effect}
use Rattle.gen1_tables.specs.declared.effect.Effect.TheVariants as effects
use Rattle.gen1_rolls.specs.Streams.{IsStream, Stream}
use Rattle.gen1_stats.specs.declared.member.KnownMove.{KnownMove}
use Rattle.gen1_stats.specs.Members.{IsBetween}
use Rattle.gen1_machine.specs.declared.side.Choice.{Choice}
use Rattle.gen1_machine.specs.declared.side.Choice.TheVariants as choices
use Rattle.gen1_machine.specs.declared.side.Pick.{Pick}
use Rattle.gen1_machine.specs.declared.side.Pick.TheVariants.{Continue, Use}
use Rattle.gen1_machine.specs.declared.side.UsedMove.{UsedMove}
use Rattle.gen1_machine.specs.declared.side.UsedMove.TheVariants.{Nothing, Slot}
use Rattle.gen1_machine.specs.declared.side.Side.{Side}
use Rattle.gen1_machine.specs.declared.side.Side.TheVariants.{One, Two}
use Rattle.gen1_machine.specs.State.{active_in, member_in, party, Active, Field, Terms}
use Rattle.gen1_machine.specs.Progress.{Action}
use Rattle.gen1_machine.specs.Valid.{effect_of, IsCount, IsField, IsUnderway, IsUsedMove}

-- Nothing is known of a side's plan, the side is about to use a move with an effect, or it is using its current move
-- with an effect.
pub data Plan : Type 0 where
  Any : Plan
  Plans : (used : UsedMove) → (effect : Effect) → Plan
  Doing : (effect : Effect) → Plan

-- What a plan says about a member that is out and knows these moves. While a move is about to be used, nothing is
-- underway.
abbrev pub HoldsPlan : Plan → List KnownMove → Active → Type 0
HoldsPlan Any moves a = Unit {0}
HoldsPlan (Plans used e) moves a = IsUsedMove (length moves) used × (effect_of used moves ≡ e) × IsUnderway effects.DamageOnly a.conditions.underway
HoldsPlan (Doing e) moves a = effect_of a.current_move moves ≡ e

-- A valid field inside an update for which each side's plan holds. The record of the action and the stream of draws are
-- valid too.
pub record IsPlanned (terms : Terms) (plan : Side → Plan) (f : Field) (a : Action) (w : Stream) : Type 0 where
  pub field : IsField terms f
  pub tested : IsCount 0 255 a.accuracy_tested
  pub stream : IsStream w
  pub holds : (s : Side) → HoldsPlan (plan s) (member_in s f).moves (active_in s f)

-- The plans with another plan for one side.
abbrev pub with_plan : Side → Plan → (Side → Plan) → Side → Plan
with_plan One x plan One = x
with_plan One x plan Two = plan Two
with_plan Two x plan One = plan One
with_plan Two x plan Two = x

-- What a choice plans: a slot is about to be used. Nothing is known for any other choice.
abbrev pub PlanOf : Choice → Plan → Type 0
PlanOf (choices.Move (suc k)) x = (e : Effect) × (x ≡ Plans (Slot (suc k)) e)
PlanOf _ x = x ≡ Any

-- The plan that a pick needs when it is acted on. Either a move is about to be used, or the current move continues, and
-- its effect explains why.
abbrev pub FitsPick : Pick → Plan → Type 0
FitsPick (Use used) x = (e : Effect) × (x ≡ Plans used e) × (used ≢ Nothing)
FitsPick Continue x = (e : Effect) × (x ≡ Doing e) × (e ≢ effects.DamageOnly)
FitsPick _ x = Unit {0}

-- A place in a side's party.
abbrev pub InRange : Side → ℕ → Field → Type 0
InRange s place f = IsBetween 1 (length (party s f).members) place

-- A member that is to come out is at such a place.
abbrev pub Comes : Choice → Side → Field → Type 0
Comes (choices.Switch place) s f = InRange s place f
Comes _ s f = Unit {0}
