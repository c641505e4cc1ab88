-- What a host sends, and its replies (docs/MECHANICS.md, "Hosts").
use Rattle.std.specs.Prelude.{Bool, List, None, Option, Some, [], if◌then◌else◌, is_none, not, ℕ, ◌&&◌, ◌∷◌, Err, Ok, Result, codes, ◌++◌}
use Rattle.gen1_machine.specs.declared.side.Choice.{Choice}
use Rattle.gen1_machine.specs.declared.event.Event.{Event}
use Rattle.gen1_machine.specs.declared.side.Side.{Side}
use Rattle.gen1_machine.specs.declared.side.Side.TheVariants.{One, Two}
use Rattle.gen1_machine.specs.declared.terms.Outcome.{Outcome}
use Rattle.gen1_machine.specs.OfferedChoices.{offered}
use Rattle.gen1_machine.specs.Room.{chosen}
use Rattle.gen1_machine.specs.Sides.{other}
use Rattle.gen1_player.specs.declared.teller.Teller.{Teller}
use Rattle.gen1_player.specs.OwnSide.{OwnSide, own_side}
use Rattle.gen1_player.specs.Telling.{told_all}
use Rattle.gen1_room.specs.Forfeits.{won_by}
use Rattle.gen1_host.specs.Table.{Agreed, current_pair, Ending, Forfeited, is_closed, Table}
use Rattle.std.specs.Fmt.{decimal}
use Rattle.gen1_room.specs.declared.submission.RoomRefusal.{RoomRefusal}
use Rattle.gen1_room.specs.declared.submission.Submitted.{Submitted}
use Rattle.gen1_host.specs.declared.host.HostRefusal.{HostRefusal}
use Rattle.gen1_host.specs.declared.host.HostRefusal.TheVariants.{AlreadyChosen, NotAllowed, NotOffered, NothingChosen, Over, Stale}
use Rattle.gen1_host.specs.declared.host.Replied.{Replied}
use Rattle.gen1_machine.specs.declared.event.Event.TheVariants as events
use Rattle.gen1_machine.specs.declared.terms.Outcome.TheVariants as outcomes
use Rattle.gen1_machine.specs.declared.terms.Request.TheVariants as requests
use Rattle.gen1_room.specs.declared.submission.RoomRefusal.TheVariants as room
use Rattle.gen1_room.specs.declared.submission.Submitted.TheVariants as submitted
use Rattle.gen1_host.specs.declared.host.Replied.TheVariants as replied
use Rattle.gen1_host.specs.Table as table

abbrev pub outcome_by : Ending → Outcome
outcome_by (Forfeited side) = won_by (other side)
outcome_by Agreed = outcomes.Tie

abbrev pub outcome_of : Table → Outcome
outcome_of t = elim t.ending [ Some ending ↦ outcome_by ending | None ↦ t.course.state.field.outcome ]

-- The events of the last pair. A forfeit is the other side's win, and a draw a tie.

abbrev pub event_of : Ending → Event
event_of (Forfeited side) = events.Win (other side)
event_of Agreed = events.Tie

abbrev pub last_events : Table → List Event
last_events t = elim t.ending [ Some ending ↦ event_of ending ∷ [] | None ↦ t.course.events ]

abbrev pub teller : Side → Table → Teller
teller One t = t.one
teller Two t = t.two

-- A side of a table that has ended is asked nothing.
abbrev pub own_by : Ending → OwnSide → OwnSide
own_by ending o = record o { request = requests.Pass; outcome = outcome_by ending }

abbrev pub own_at : Side → Table → OwnSide
own_at s t = elim t.ending [ Some ending ↦ own_by ending (own_side s t.course.state.field) | None ↦ own_side s t.course.state.field ]

-- Everything that a side is sent after the last pair.
pub record Sent : Type 0 where
  pub number : ℕ  -- of the current pair
  pub events : List Event
  pub own : OwnSide
  pub choices : List Choice
  pub draw : Option Side  -- who offers a draw

abbrev pub message : Side → Table → Sent
message s t = record {
  number = current_pair t;
  events = told_all (last_events t) (teller s t);
  own = own_at s t;
  choices = (if is_closed t then [] else offered s t.course.state.field);
  draw = t.draw;
}

-- What the audience is sent: what the tellers of both sides make of the events, one after the other.
pub record Notice : Type 0 where
  pub number : ℕ
  pub events : List Event
  pub outcome : Outcome
  pub draw : Option Side

abbrev pub notice : Table → Notice
notice t = record {
  number = current_pair t;
  events = told_all (told_all (last_events t) t.one) t.two;
  outcome = outcome_of t;
  draw = t.draw;
}

-- The choice that a side has made for the current pair.
abbrev pub chosen_at : Side → Table → Option Choice
chosen_at s t = if is_closed t then None else chosen s t.course

-- Whether a side's choice is missing. A side may be told this of itself; only the host knows it of both.
abbrev pub is_awaited : Side → Table → Bool
is_awaited s t = not (is_closed t) && is_none (chosen s t.course)

-- The replies to rows, in the table's terms (docs/MECHANICS.md, "Hosts"), their numbers and their texts.

abbrev pub why_of : HostRefusal → table.HostRefusal
why_of Over = table.TableOver
why_of (Stale current) = table.OtherPair current
why_of AlreadyChosen = table.HasChosen
why_of NotOffered = table.NotOffered
why_of NotAllowed = table.NotAllowed
why_of NothingChosen = table.NothingChosen

abbrev pub reply_of_taken : Replied → table.HostReply
reply_of_taken replied.Kept = table.Kept
reply_of_taken replied.Ended = table.Ended

abbrev pub reply_of : Result Replied HostRefusal → table.HostReply
reply_of (Ok it) = reply_of_taken it
reply_of (Err why) = table.Refused (why_of why)

-- what a room's reply means at a table

abbrev pub reply_to_submitted : Submitted → Replied
reply_to_submitted submitted.Waiting = replied.Kept
reply_to_submitted (submitted.Advanced result) = replied.Ended

abbrev pub refusal_at : RoomRefusal → HostRefusal
refusal_at room.Over = Over
refusal_at (room.Stale current) = Stale current
refusal_at room.AlreadyChosen = AlreadyChosen
refusal_at room.NotOffered = NotOffered

abbrev pub number_of : HostRefusal → ℕ
number_of Over = 1
number_of (Stale current) = 2
number_of AlreadyChosen = 3
number_of NotOffered = 4
number_of NotAllowed = 5
number_of NothingChosen = 6

-- What is wrong, in words.
abbrev pub words_of : HostRefusal → List ℕ
words_of Over = codes "the battle is over"
words_of (Stale current) = codes "the current pair is " ++ decimal current
words_of AlreadyChosen = codes "the side has chosen"
words_of NotOffered = codes "the choice is not offered"
words_of NotAllowed = codes "choices can't be taken back"
words_of NothingChosen = codes "the side has no choice to take back"
