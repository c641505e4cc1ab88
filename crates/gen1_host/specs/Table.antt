-- A table: two players, who submit their choices to its room, and a host, who tells each of them what it may know (docs/MECHANICS.md,
-- "Hosts"). All that happens at it is written down as rows.
use Rattle.std.specs.Prelude.{Bool, List, None, Option, Some, [], if◌then◌else◌, is_none, is_some, not, ℕ, ◌+◌, ◌==◌, ◌||◌, ◌∷◌}
use Rattle.std.specs.List.{filter}
use Rattle.gen1_rolls.specs.Steady.{Ring}
use Rattle.gen1_machine.specs.declared.side.Choice.{Choice}
use Rattle.gen1_machine.specs.declared.side.Side.{Side}
use Rattle.gen1_machine.specs.Choices.{byte_of_choice}
use Rattle.gen1_machine.specs.Room.{after, chosen, Course, is_asked_to_pass, Reply, reply_to, room_of, Submission}
use Rattle.gen1_machine.specs.Room.{Advanced, AlreadyChosen, ChoiceNotOffered, RoomOver, RoomRefusal, Stale, TurnedAway, Waiting}
use Rattle.gen1_machine.specs.State.{is_over, same_side, State}
use Rattle.gen1_player.specs.declared.teller.Teller.{Teller}
use Rattle.gen1_player.specs.Telling.{meets_all}
use Rattle.gen1_room.specs.Rooms.{due, reseeded_in, submission_of}

-- How a table ends before its battle does: a side forfeits, or both sides agree on a draw.
pub data Ending : Type 0 where
  Forfeited : (by : Side) → Ending
  Agreed : Ending

-- What its host allows.
pub record HouseRules : Type 0 where
  pub may_cancel : Bool  -- a side may take its choice back while the other's is missing
  pub late_forfeits : Bool  -- a side whose time has run out forfeits; otherwise its first choice is made

pub record Table : Type 0 where
  pub course : Course
  pub one : Teller  -- the teller of side 1, before the events of the last pair
  pub two : Teller  -- and of side 2
  pub ending : Option Ending
  pub draw : Option Side  -- the side that offers a draw
  pub rules : HouseRules

-- What is written down. The numbers are those that the battle draws from then on; with none it draws on as before.
pub data Row : Type 0 where
  Submit : (numbers : Option Ring) → (submission : Submission) → Row
  Cancel : (side : Side) → (number : ℕ) → Row
  Expire : (numbers : Option Ring) → (side : Side) → (number : ℕ) → Row
  OfferDraw : (side : Side) → Row
  Forfeit : (side : Side) → Row

pub data HostRefusal : Type 0 where
  TableOver : HostRefusal
  OtherPair : (current : ℕ) → HostRefusal
  HasChosen : HostRefusal
  NotOffered : HostRefusal
  NotAllowed : HostRefusal
  NothingChosen : HostRefusal

-- What the sender of a row learns. After a pair has ended, each side is sent a message.
pub data HostReply : Type 0 where
  Kept : HostReply
  Ended : HostReply
  Refused : (why : HostRefusal) → HostReply

abbrev pub is_closed : Table → Bool
is_closed t = is_some t.ending || is_over t.course.state.field.outcome

-- The current pair, which is past the last one of a table that has ended.
abbrev pub current_pair : Table → ℕ
current_pair t = elim t.ending [ Some ending ↦ t.course.number + 1 | None ↦ t.course.number ]

-- a battle comes to the table

abbrev pub table_of : HouseRules → Teller → Teller → State → Table
table_of rules one two s = record { course = room_of s; one = one; two = two; ending = None; draw = None; rules = rules }

-- submissions

abbrev pub host_refusal : RoomRefusal → HostRefusal
host_refusal RoomOver = TableOver
host_refusal (Stale current) = OtherPair current
host_refusal AlreadyChosen = HasChosen
host_refusal ChoiceNotOffered = NotOffered

abbrev pub host_reply : Reply → HostReply
host_reply Waiting = Kept
host_reply (Advanced outcome one two) = Ended
host_reply (TurnedAway why) = Refused (host_refusal why)

-- The table with the next course. Where a pair has ended, both tellers have told the events before it, and no draw is offered.
abbrev pub goes_on : Table → Course → Table
goes_on t next =
    if next.number == t.course.number then record t { course = next }
    else record t { course = next; one = meets_all t.course.events t.one; two = meets_all t.course.events t.two; draw = None }

-- the course in which the battle draws these numbers
abbrev pub drawing : Option Ring → Course → Course
drawing (Some ring) c = reseeded_in ring c
drawing None c = c

abbrev pub submitted : Option Ring → Submission → Table → Table
submitted numbers x t = goes_on t (after (drawing numbers t.course) x)

abbrev pub reply_to_submission : Option Ring → Submission → Table → HostReply
reply_to_submission numbers x t = host_reply (reply_to (drawing numbers t.course) x)

-- a choice that is taken back

abbrev pub is_by : Side → Submission → Bool
is_by side x = same_side x.side side

abbrev pub taken_back : Side → Table → Table
taken_back side t = record t { course = record t.course { since = filter (λ (x : Submission). not (is_by side x)) t.course.since } }

abbrev pub has_none_to_cancel : Side → Course → Bool
has_none_to_cancel side c = is_asked_to_pass side c || is_none (chosen side c)

-- time that has run out: the first choice that is due

abbrev pub first_byte : List Choice → ℕ
first_byte [] = 255
first_byte (choice ∷ more) = byte_of_choice choice

abbrev pub first_due : Side → ℕ → Table → Submission
first_due side number t = submission_of side number (first_byte (due side t.course))

-- what becomes of a table by a row

abbrev pub ends_as : Ending → Table → Table
ends_as ending t = record t { ending = Some ending }

abbrev pub draw_offered : Side → Table → Table
draw_offered side t = elim t.draw [ Some by ↦ if same_side by side then t else ends_as Agreed t | None ↦ record t { draw = Some side } ]

abbrev pub reply_in_turn : Row → Table → HostReply
reply_in_turn (Submit numbers x) t = reply_to_submission numbers x t
reply_in_turn (Cancel side number) t =
    if not t.rules.may_cancel then Refused NotAllowed
    else if not (number == t.course.number) then Refused (OtherPair t.course.number)
    else if has_none_to_cancel side t.course then Refused NothingChosen
    else Kept
reply_in_turn (Expire numbers side number) t =
    if not (number == t.course.number) then Refused (OtherPair t.course.number)
    else if is_some (chosen side t.course) then Refused HasChosen
    else if t.rules.late_forfeits then Ended
    else reply_to_submission numbers (first_due side number t) t
reply_in_turn (OfferDraw side) t = elim t.draw [ Some by ↦ if same_side by side then Kept else Ended | None ↦ Kept ]
reply_in_turn (Forfeit side) t = Ended

-- The reply to a row.
unfoldable pub reply_to_row : Row → Table → HostReply
reply_to_row row t = if is_closed t then Refused TableOver else reply_in_turn row t

abbrev pub if_not_refused : HostReply → Table → Table → Table
if_not_refused (Refused why) old new = old
if_not_refused _ old new = new

abbrev pub changed_by : Row → Table → Table
changed_by (Submit numbers x) t = submitted numbers x t
changed_by (Cancel side number) t = taken_back side t
changed_by (Expire numbers side number) t =
    if t.rules.late_forfeits then ends_as (Forfeited side) t else submitted numbers (first_due side number t) t
changed_by (OfferDraw side) t = draw_offered side t
changed_by (Forfeit side) t = ends_as (Forfeited side) t

-- The table after a row. A row that is refused changes nothing.
unfoldable pub after_row : Row → Table → Table
after_row row t = if_not_refused (reply_to_row row t) t (changed_by row t)

-- A table after rows, and the replies to them: all that a host stores is where it began, and its rows.

unfoldable pub table_after : List Row → Table → Table
table_after [] t = t
table_after (row ∷ more) t = table_after more (after_row row t)

unfoldable pub replies_to : List Row → Table → List HostReply
replies_to [] t = []
replies_to (row ∷ more) t = reply_to_row row t ∷ replies_to more (after_row row t)
