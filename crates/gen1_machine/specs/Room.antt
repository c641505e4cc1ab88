-- A room (docs/MECHANICS.md, "Rooms"): two players who submit their choices independently.
use Rattle.std.specs.Prelude.{Bool, List, None, Option, Some, [], if◌then◌else◌, is_none, is_some, not, ℕ, ◌&&◌, ◌++◌, ◌+◌, ◌==◌, ◌∷◌}
use Rattle.gen1_machine.specs.declared.side.Side.{Side}
use Rattle.gen1_machine.specs.declared.side.Side.TheVariants.{One, Two}
use Rattle.gen1_machine.specs.declared.terms.Outcome.{Outcome}
use Rattle.gen1_machine.specs.declared.terms.Request.{Request}
use Rattle.gen1_machine.specs.declared.event.Event.{Event}
use Rattle.gen1_machine.specs.declared.side.Choice.{Choice}
use Rattle.gen1_machine.specs.declared.side.Choice.TheVariants as choices
use Rattle.gen1_machine.specs.Choices.{byte_of_choice}
use Rattle.gen1_machine.specs.State.{same_side, request_of, is_over, is_pass, State}
use Rattle.gen1_machine.specs.OfferedChoices.{offered}
use Rattle.gen1_machine.specs.Step.{events_of, step, Stepped, Accepted}

-- A submission names the pair that it is meant for. Its choice is a byte, which may not be a choice at all.
pub record Submission : Type 0 where
  pub side : Side
  pub number : ℕ
  pub byte : ℕ

-- The battle after the completed pairs, their number, the events of the last one, and the submissions since then.
pub record Course : Type 0 where
  pub state : State
  pub number : ℕ
  pub events : List Event
  pub since : List Submission

abbrev pub choice_by_byte : ℕ → List Choice → Option Choice
choice_by_byte b [] = None
choice_by_byte b (c ∷ cs) = if byte_of_choice c == b then Some c else choice_by_byte b cs

-- The choice that a submission makes for a side in the current pair, if it makes one.
abbrev pub choice_made : Side → Course → Submission → Option Choice
choice_made s c submission =
    if same_side submission.side s && submission.number == c.number
    then choice_by_byte submission.byte (offered s c.state.field) else None

abbrev pub first_made : Side → Course → List Submission → Option Choice
first_made s c [] = None
first_made s c (submission ∷ more) = elim (choice_made s c submission) [ Some choice ↦ Some choice | None ↦ first_made s c more ]

abbrev pub is_asked_to_pass : Side → Course → Bool
is_asked_to_pass s c = is_pass (request_of s c.state.field)

-- A side's choice for the current pair: Pass if nothing else is asked for, otherwise its first submitted choice that
-- was offered.
abbrev pub chosen : Side → Course → Option Choice
chosen s c = if is_asked_to_pass s c then Some choices.Pass else first_made s c c.since

pub data RoomRefusal : Type 0 where
  RoomOver : RoomRefusal
  Stale : (current : ℕ) → RoomRefusal
  AlreadyChosen : RoomRefusal
  ChoiceNotOffered : RoomRefusal

pub data Reply : Type 0 where
  Waiting : Reply
  Advanced : (outcome : Outcome) → (request_one : Request) → (request_two : Request) → Reply
  TurnedAway : (why : RoomRefusal) → Reply

abbrev pub advanced_to : State → Reply
advanced_to s = Advanced s.field.outcome s.field.request_one s.field.request_two

-- A pair is complete when both choices are there.
abbrev pub ended_by : Course → Option Choice → Option Choice → Course
ended_by c (Some one) (Some two) = let next = step c.state one two in
    record { state = next.state; number = c.number + 1; events = events_of next.answer; since = [] }
ended_by c _ _ = c

abbrev pub with_submission : Course → Submission → Course
with_submission c submission = record c { since = c.since ++ submission ∷ [] }

-- Once the battle is over, submissions change nothing.
unfoldable pub after : Course → Submission → Course
after c submission =
    if is_over c.state.field.outcome then c
    else let d = with_submission c submission in ended_by d (chosen One d) (chosen Two d)

-- The reply to a submission that made a choice. It says whether that completed the pair.
abbrev pub reply_to_choice : Course → Course → Reply
reply_to_choice c d = if d.number == c.number then Waiting else advanced_to d.state

unfoldable pub reply_to : Course → Submission → Reply
reply_to c submission =
    if is_over c.state.field.outcome then TurnedAway RoomOver
    else if not (submission.number == c.number) then TurnedAway (Stale c.number)
    else if is_some (chosen submission.side c) then TurnedAway AlreadyChosen
    else if is_none (choice_made submission.side c submission) then TurnedAway ChoiceNotOffered
    else reply_to_choice c (after c submission)

-- A battle that has not begun begins when its room is made.
abbrev pub begun : State → Stepped
begun s = if s.field.turn == 0 then step s choices.Pass choices.Pass else record { answer = Accepted []; state = s }

unfoldable pub room_of : State → Course
room_of s = record { state = (begun s).state; number = 0; events = events_of (begun s).answer; since = [] }

-- The pairs that the submissions complete.
abbrev pub pair_of : Option Choice → Option Choice → List (Choice × Choice)
pair_of (Some one) (Some two) = (one, two) ∷ []
pair_of _ _ = []

abbrev pub pair_ended : Course → Submission → List (Choice × Choice)
pair_ended c submission =
    if is_over c.state.field.outcome then []
    else let d = with_submission c submission in pair_of (chosen One d) (chosen Two d)

unfoldable pub accepted_pairs : Course → List Submission → List (Choice × Choice)
accepted_pairs c [] = []
accepted_pairs c (submission ∷ more) = pair_ended c submission ++ accepted_pairs (after c submission) more

unfoldable pub course_of : Course → List Submission → Course
course_of c [] = c
course_of c (submission ∷ more) = course_of (after c submission) more

unfoldable pub replies_of : Course → List Submission → List Reply
replies_of c [] = []
replies_of c (submission ∷ more) = reply_to c submission ∷ replies_of (after c submission) more
