-- What a room holds and replies, in the machine's terms (docs/MECHANICS.md, "Rooms").
use Rattle.std.specs.Prelude.{Bool, Err, List, None, Ok, Option, Result, Some, false, if◌then◌else◌, length, max, true, ℕ, ◌+◌, ◌-◌, ◌≡◌, ◌≤◌, ◌⊎◌, [], is_some, take, is_none, ◌++◌, ◌||◌, ◌∷◌}
use Rattle.gen1_rolls.specs.Steady.{Ring}
use Rattle.gen1_machine.specs.declared.side.Side.{Side}
use Rattle.gen1_machine.specs.declared.side.Side.TheVariants.{One, Two}
use Rattle.gen1_machine.specs.declared.side.Choice.{Choice}
use Rattle.gen1_machine.specs.declared.terms.Request.{Request}
use Rattle.gen1_machine.specs.declared.terms.Request.TheVariants.{Switch}
use Rattle.gen1_machine.specs.OfferedChoices.{others_living_from, offered}
use Rattle.gen1_machine.specs.Room.{after, AlreadyChosen, Advanced, begun, choice_made, ChoiceNotOffered, chosen, Course, ended_by, Reply, reply_to, RoomOver, RoomRefusal, Stale, Submission, TurnedAway, Waiting, advanced_to, course_of, replies_of}
use Rattle.gen1_machine.specs.State.{active_in, Field, is_over, party, State}
use Rattle.gen1_machine.specs.Step.{events_of}
use Rattle.gen1_machine.specs.Valid.{StandsAs}
use Rattle.gen1_events.specs.Reader.{IsReading}
use Rattle.gen1_layout.specs.Parts.{Parts}
use Rattle.gen1_layout.specs.Shows.{Stands}
use Rattle.gen1_engine.specs.Update.{AreOffered, reseeded}
use Rattle.gen1_room.specs.declared.submission.Held.{Held}
use Rattle.gen1_room.specs.declared.submission.Submitted.{Submitted}
use Rattle.gen1_room.specs.declared.submission.RoomRefusal.{RoomRefusal as Why}
use Rattle.gen1_machine.specs.Choices.{choice_at}
use Rattle.gen1_room.specs.declared.plain.PlainRoom.{PlainRoom}
use Rattle.gen1_room.specs.declared.submission.Submitted.TheVariants as submitted
use Rattle.gen1_room.specs.declared.submission.RoomRefusal.TheVariants as whys

-- Switches to the living members of a side that are not out. Before the start the first one counts as out, since it comes out first.
abbrev pub on_bench : Side → Field → List Choice
on_bench s f = others_living_from 1 (max 1 (active_in s f).place) (party s f).members

-- Whether a side is asked to replace a fallen member. The pair of the current turn has ended then.
abbrev pub is_replaced : Request → Request → Bool
is_replaced Switch two = true
is_replaced one Switch = true
is_replaced one two = false

-- At most this many pairs are still accepted: one in each turn that may come, one in the current turn unless it has ended, and one for
-- each member that may replace another.
abbrev pub pairs_left : State → ℕ
pairs_left s =
    if is_over s.field.outcome then 0
    else (if is_replaced s.field.request_one s.field.request_two then 0 else 1) + (s.terms.limit - s.field.turn)
    + (length (on_bench One s.field) + length (on_bench Two s.field))

-- A number of pairs that leaves room for those to come. No battle accepts more than its turn limit, plus eleven.
abbrev pub Counts : ℕ → State → Type 0
Counts number s = number + pairs_left s ≤ s.terms.limit + 11

-- A room holds a course: the battle represents its state, the log is the code of its last events, and the choices are those made
-- for the current pair. While the battle continues, one of them is missing.
pub record Holds (r : Held) (c : Course) : Type 0 where
  pub stands : Stands r.battle c.state
  pub counted : r.number ≡ c.number
  pub counts : Counts c.number c.state
  pub logged : IsReading r.log.items c.events
  pub one : r.one ≡ chosen One c
  pub two : r.two ≡ chosen Two c
  pub waits : is_over c.state.field.outcome ≡ false → (r.one ≡ None) ⊎ (r.two ≡ None)

-- what holds for every room
pub record IsRoom (r : Held) : Type 0 where
  pub course : Course
  pub holds : Holds r course

abbrev pub chosen_in : Side → Held → Option Choice
chosen_in One r = r.one
chosen_in Two r = r.two

-- a side that has not chosen submitted a choice that it is offered
pub record MayChoose (r : Held) (side : Side) (choice : Choice) : Type 0 where
  pub course : Course
  pub submission : Submission
  pub holds : Holds r course
  pub going : is_over course.state.field.outcome ≡ false
  pub missing : chosen side course ≡ None
  pub made : choice_made side course submission ≡ Some choice

-- both sides chose what they are offered
pub record EndsPair (r : Held) (one two : Choice) : Type 0 where
  pub state : State
  pub stands : Stands r.battle state
  pub offered : AreOffered state one two
  pub counts : Counts r.number state

-- the battle and the log of a state, which was started if it was before its start
pub record Opens (s : State) (new : Parts) (log : List ℕ) : Type 0 where
  pub stands : Stands new (begun s).state
  pub logged : IsReading log (events_of (begun s).answer)
  pub requests : StandsAs (begun s).state.field.outcome s.terms (begun s).state.field

abbrev pub ended : Course → Choice → Choice → Course
ended c one two = ended_by c (Some one) (Some two)

-- submissions and replies, in the machine's terms

abbrev pub submission_of : Side → ℕ → ℕ → Submission
submission_of side number byte = record { side = side; number = number; byte = byte }

abbrev pub submission_at : Side × ℕ × ℕ → Submission
submission_at s = submission_of s.0 s.1 s.2

abbrev pub why_of : Why → RoomRefusal
why_of whys.Over = RoomOver
why_of (whys.Stale current) = Stale current
why_of whys.AlreadyChosen = AlreadyChosen
why_of whys.NotOffered = ChoiceNotOffered

abbrev pub reply_of_submitted : Submitted → Reply
reply_of_submitted submitted.Waiting = Waiting
reply_of_submitted (submitted.Advanced r) = Advanced r.outcome r.request_one r.request_two

abbrev pub reply_of : Result Submitted Why → Reply
reply_of (Ok s) = reply_of_submitted s
reply_of (Err why) = TurnedAway (why_of why)

-- A submission to a room that holds any course: then it holds what the machine's room does, whose reply is returned.
abbrev pub Takes : Held → Held → Result Submitted Why → Submission → Type 0
Takes old new result submission = (c : Course) → Holds old c → Holds new (after c submission) × (reply_of result ≡ reply_to c submission)

-- A course with other numbers for its battle to draw.
abbrev pub reseeded_in : Ring → Course → Course
reseeded_in ring c = record c { state = reseeded ring c.state }

-- A room as a plain struct, in the machine's terms (docs/MECHANICS.md, "Rooms").

-- what it holds: the log is the prefix of its buffer, and a byte that is not a choice is a choice that is missing
abbrev pub held_of : PlainRoom → Held
held_of r = record {
  battle = r.battle;
  number = r.number;
  events = record { items = [] };
  log = record { items = take r.log_length r.log };
  one = choice_at r.one;
  two = choice_at r.two;
}

-- it holds a course, as a room does, and no side has forfeited
pub record Keeps (r : PlainRoom) (c : Course) : Type 0 where
  pub holds : Holds (held_of r) c
  pub unforfeited : r.forfeit ≡ 0

-- a missing choice is 255, and not another byte that is not a choice
pub record IsMarked (r : PlainRoom) : Type 0 where
  pub one : choice_at r.one ≡ None → r.one ≡ 255
  pub two : choice_at r.two ≡ None → r.two ≡ 255

-- what a side may submit: nothing if its choice is there
abbrev pub due : Side → Course → List Choice
due side c = if is_some (chosen side c) then [] else offered side c.state.field

-- What the replies of a room reveal about choices (docs/MECHANICS.md, "Rooms").

-- Take two offered choices that a side might submit for the current pair. The replies to both are the same, and so are the replies
-- to all later submissions of either side, until the pair has ended.
abbrev pub RepliesHideChoices : Type 0
RepliesHideChoices = (c : Course) (before more : List Submission) (side : Side) (x y : ℕ)
    → let d : Course = course_of c before in
    is_some (choice_made side d (submission_of side d.number x)) ≡ true → is_some (choice_made side d (submission_of side d.number y)) ≡ true
    → (course_of c (before ++ submission_of side d.number x ∷ more)).number ≡ d.number
    → replies_of c (before ++ submission_of side d.number x ∷ more) ≡ replies_of c (before ++ submission_of side d.number y ∷ more)

-- the reply to the submission that ends a pair is the result of the battle at that point
abbrev pub PairsAreAnswered : Type 0
PairsAreAnswered = (c : Course) (x : Submission)
    → is_over c.state.field.outcome ≡ false → (is_none (chosen One c) || is_none (chosen Two c)) ≡ true
    → (after c x).number ≡ c.number + 1 → reply_to c x ≡ advanced_to (after c x).state
