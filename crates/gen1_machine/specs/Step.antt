-- One update of a battle by a pair of choices, and runs of many (docs/MECHANICS.md, "Offered choices", "Falls and
-- requests").
use Rattle.std.specs.Prelude.{Bool, List, [], false, true, ◌==◌, ◌∷◌}
use Rattle.gen1_machine.specs.declared.side.Side.{Side}
use Rattle.gen1_machine.specs.declared.side.Side.TheVariants.{One, Two}
use Rattle.gen1_machine.specs.declared.terms.Request.{Request}
use Rattle.gen1_machine.specs.declared.terms.Request.TheVariants as requests
use Rattle.gen1_machine.specs.declared.event.Event.{Event}
use Rattle.gen1_machine.specs.declared.side.Choice.{Choice}
use Rattle.gen1_machine.specs.declared.side.Choice.TheVariants as choices
use Rattle.gen1_tables.specs.Types.{any}
use Rattle.gen1_rolls.specs.Streams.{Link}
use Rattle.gen1_machine.specs.State.{is_over, Terms, State}
use Rattle.gen1_machine.specs.Progress.{new_action, Phase, Progress}
use Rattle.gen1_machine.specs.Ruling.{ruling_of, ruling_without_clauses, ruling_with_clauses, Ruling}
use Rattle.gen1_machine.specs.SwitchingIn.{replace, start}
use Rattle.gen1_machine.specs.Turn.{turn}
use Rattle.gen1_machine.specs.Falls.{close}
use Rattle.gen1_machine.specs.OfferedChoices.{offered}

-- Choices are equal if they have the same form and the same number.
abbrev pub same_choice : Choice → Choice → Bool
same_choice choices.Pass choices.Pass = true
same_choice (choices.Move j) (choices.Move k) = j == k
same_choice (choices.Switch j) (choices.Switch k) = j == k
same_choice _ _ = false

abbrev pub is_among : Choice → List Choice → Bool
is_among c offered = any (same_choice c) offered

-- The progress at the start of an update

abbrev pub opened : State → Progress
opened s = record {
  field = s.field;
  stream = Link s.seed;
  drawn = s.drawn;
  events = [];
  stopped = false;
  skips = false;
  action = new_action One;
}

-- What an update does, by its requests.
unfoldable pub update_for : Ruling → Request → Request → Choice → Choice → Phase
update_for r requests.Move requests.Move one two = turn r one two
update_for r requests.Pass requests.Pass one two = start
update_for r _ _ one two = replace one two

unfoldable pub close_update : Ruling → Phase
close_update r p = close r p.field.outcome (record p { stopped = false })

unfoldable pub update : Ruling → Choice → Choice → Phase
update r one two p = close_update r (update_for r p.field.request_one p.field.request_two one two p)

-- What an update returns

pub data Refusal : Type 0 where
  Over : Refusal
  NotOffered : (side : Side) → Refusal

pub data Answer : Type 0 where
  Refused : (why : Refusal) → Answer
  Accepted : (events : List Event) → Answer

abbrev pub events_of : Answer → List Event
events_of (Refused why) = []
events_of (Accepted events) = events

pub record Stepped : Type 0 where
  pub answer : Answer
  pub state : State

-- A refused pair leaves the whole state. An accepted pair leaves its terms and its seed.

abbrev pub refused : State → Refusal → Stepped
refused s why = record { answer = Refused why; state = s }

abbrev pub accepted : State → Progress → Stepped
accepted s p = record { answer = Accepted p.events; state = record s { field = p.field; drawn = p.drawn } }

-- The result, by whether the battle is over, whether each choice is offered, and where the update leads.
unfoldable pub answered : State → Bool → Bool → Bool → Progress → Stepped
answered s true _ _ p = refused s Over
answered s false false _ p = refused s (NotOffered One)
answered s false true false p = refused s (NotOffered Two)
answered s false true true p = accepted s p

abbrev pub offers : State → Side → Choice → Bool
offers s side choice = is_among choice (offered side s.field)

unfoldable pub step_by : (Terms → Ruling) → State → Choice → Choice → Stepped
step_by ruling s one two =
    answered s (is_over s.field.outcome) (offers s One one) (offers s Two two) (update (ruling s.terms) one two (opened s))

unfoldable pub step : State → Choice → Choice → Stepped
step = step_by ruling_of

-- The step without clauses, with a fixed limit.
unfoldable pub step_before : State → Choice → Choice → Stepped
step_before = step_by λ terms. ruling_without_clauses

-- The step with clauses, and with a fixed limit.
unfoldable pub step_two : State → Choice → Choice → Stepped
step_two = step_by λ terms. ruling_with_clauses terms.rules

-- Runs, pair by pair

pub record Ran : Type 0 where
  pub answers : List Answer
  pub state : State

abbrev pub and_then_ran : Answer → Ran → Ran
and_then_ran a r = record { answers = a ∷ r.answers; state = r.state }

unfoldable pub run_by : (State → Choice → Choice → Stepped) → State → List (Choice × Choice) → Ran
run_by next s [] = record { answers = []; state = s }
run_by next s (pair ∷ pairs) = let one = next s pair.0 pair.1 in and_then_ran one.answer (run_by next one.state pairs)

abbrev pub run : State → List (Choice × Choice) → Ran
run = run_by step
