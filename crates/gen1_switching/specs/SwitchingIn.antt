-- A member that comes out, in the terms of the function that writes it, and the updates in which members come out (docs/MECHANICS.md,
-- "Switching in").
use Rattle.std.specs.Prelude.{Bool, List, [], false, max, true, ◌/◌, ◌≡◌, ◌∷◌, ◌⊎◌, ◌<◌, ◌||◌}
use Rattle.gen1_layout.specs.Parts.{Parts}
use Rattle.gen1_layout.specs.Words.{Event, Field, Member, Setting, Side, changed_active, member_at, party, ℕ, Frame, Progress, Telling, Within, None, Option, Phase, Shows, Some}
use Rattle.gen1_stats.specs.declared.member.Status.{Status}
use Rattle.gen1_stats.specs.declared.member.Status.TheVariants.{Burned, Paralysed}
use Rattle.gen1_machine.specs.declared.event.Event.TheVariants.{Switch}
use Rattle.gen1_machine.specs.Plans.{InRange, Comes}
use Rattle.gen1_machine.specs.State.{health_of, State}
use Rattle.gen1_machine.specs.SwitchingIn.{with_sent_out}
use Rattle.gen1_events.specs.declared.sink.Untested.{Untested}
use Rattle.gen1_events.specs.Fields.{IsInRange, event_of}
use Rattle.gen1_rolls.specs.Draws.{Drawing, Since, Source, StandsIn}
use Rattle.gen1_rolls.specs.Streams.{IsStream, Link, Stream}
use Rattle.gen1_machine.specs.declared.side.Choice.{Choice}
use Rattle.gen1_machine.specs.declared.side.Side.TheVariants.{One, Two}
use Rattle.gen1_machine.specs.declared.terms.Outcome.TheVariants.{Ongoing, Fault}
use Rattle.gen1_machine.specs.declared.terms.Request.{Request}
use Rattle.gen1_machine.specs.Progress.{new_action, choose, has_fallen}
use Rattle.gen1_machine.specs.Step.{offers, opened, step, Accepted}
use Rattle.gen1_machine.specs.Valid.{IsUnstarted}
use Rattle.gen1_layout.specs.Operations.{Premise, Scene}
use Rattle.gen1_layout.specs.Shows.{setting_of, Stands}
use Rattle.gen1_machine.specs.declared.terms.Outcome.{Outcome}
use Rattle.gen1_machine.specs.Falls.{ask_for_moves, ask_for_switches, end_if_decided}
use Rattle.gen1_machine.specs.Ruling.{ruling_of}

-- The penalty that a status brings: a halved Attack, or a quartered Speed

abbrev pub halvings_of : Status → ℕ
halvings_of Burned = 1
halvings_of _ = 0

abbrev pub quarterings_of : Status → ℕ
quarterings_of Paralysed = 1
quarterings_of _ = 0

-- The four own stats with that penalty. Attack and Speed are at least 1.
abbrev pub stats_out : Status → ℕ → ℕ → ℕ → ℕ → List ℕ
stats_out Burned attack defense speed special = max 1 (attack / 2) ∷ defense ∷ speed ∷ special ∷ []
stats_out Paralysed attack defense speed special = attack ∷ defense ∷ max 1 (speed / 4) ∷ special ∷ []
stats_out _ attack defense speed special = attack ∷ defense ∷ speed ∷ special ∷ []

-- Only two statuses bring one.
abbrev pub has_penalty : Status → Bool
has_penalty Burned = true
has_penalty Paralysed = true
has_penalty _ = false

abbrev pub stats_sent_out : Member → List ℕ
stats_sent_out m = stats_out m.status m.attack m.defense m.speed m.special

-- The member at a place is out, and nothing else has changed.
abbrev pub with_out : Side → ℕ → Field → Field
with_out s place f = changed_active s (with_sent_out place (member_at place (party s f))) f

-- Whenever the parts represented a field, they now represent it with the member at a place out.
abbrev pub PutsOut : (Setting → Parts → Field → Type 0) → Side → ℕ → Parts → Parts → Type 0
PutsOut StandsFor s place old new = (g : Setting) (f : Field) → StandsFor g old f → InRange s place f → StandsFor g new (with_out s place f)

-- `PutsOut`, if these are the stats with which the member comes out.
abbrev pub PutsOutWith : (Setting → Parts → Field → Type 0) → Side → ℕ → List ℕ → Parts → Parts → Type 0
PutsOutWith StandsFor s place stats old new =
    (g : Setting) (f : Field) → StandsFor g old f → InRange s place f → stats ≡ stats_sent_out (member_at place (party s f))
    → StandsFor g new (with_out s place f)

-- The event for a member that comes out.
abbrev pub coming_out : Side → ℕ → Member → Event
coming_out s place m = Switch (record { side = s; species = m.species }) place m.level (health_of m)

-- The numbers are those of this event, and in their ranges.
pub record ComesOut (s : Side) (place : ℕ) (m : Member) (numbers : Untested) : Type 0 where
  pub event : event_of numbers ≡ coming_out s place m
  pub ranges : IsInRange numbers

-- The start of an update, and how it leaves the bytes, the events and the generator (docs/MECHANICS.md, "Falls and
-- requests").

-- An update at its start.
abbrev pub frame_of : State → Frame
frame_of s = record { setting = setting_of s; stream = Link s.seed; drawn = s.drawn; skips = false; action = new_action One }

-- The update begins on any stream, at any place in it.
abbrev pub drawing_on : Stream → ℕ → State → Progress
drawing_on stream drawn s = record (opened s) { stream = stream; drawn = drawn }

-- Each choice brings out a member of its side, if it is a switch.
abbrev pub both_come : Choice → Choice → Premise
both_come one two g p Then = Comes one One p.field → Comes two Two p.field → Then

-- A battle that continues. `asked` was asked for, and each side has chosen one of its offered choices.
pub record Plays (s : State) (asked : Request) (one two : Choice) : Type 0 where
  pub goes_on : s.field.outcome ≡ Ongoing
  pub asked_for : (s.field.request_one ≡ asked) ⊎ (s.field.request_two ≡ asked)
  pub first : offers s One one ≡ true
  pub second : offers s Two two ≡ true

-- A battle before its first update.
pub record Starts (s : State) : Type 0 where
  pub goes_on : s.field.outcome ≡ Ongoing
  pub unstarted : IsUnstarted s.terms s.field

-- The bytes and the events are those of q, and nothing was drawn.
pub record Updated (g : Setting) (parts : Parts) (events : Telling) (q : Progress) : Type 0 where
  pub within : Within g parts q.field
  pub written : events q.events
  pub drawn : q.drawn ≡ g.drawn

-- The bytes and the events are those of q, and the generator is at the place that q has drawn to.
pub record UpdatedDrawing {A : Type 0} (d : Drawing A) (source : Source A) (g : Setting) (parts : Parts) (events : Telling) (now : A) (q : Progress) : Type 0 where
  pub within : Within g parts q.field
  pub written : events q.events
  pub stands : StandsIn d source q.drawn now

-- Code with draws makes such an update, from the generator that it is given to the one that it returns, at any place of
-- any stream.
abbrev pub UpdatesDrawing : {A : Type 0} → Drawing A → A → A → Setting → Scene → (Stream → ℕ → Progress) → Type 0
UpdatesDrawing d old new g s after = s λ _ _ _ parts' events' _.
    (since : Since d new) (drawn : ℕ) → IsStream since.source.stream → StandsIn d since.source drawn old
    → UpdatedDrawing d since.source g parts' events' new (after since.source.stream drawn)

-- The bytes represent the state after a pair of choices. The pair was accepted, with these events.
pub record Steps (s : State) (one two : Choice) (parts : Parts) (events : Telling) : Type 0 where
  pub stands : Stands parts (step s one two).state
  pub told : List Event
  pub answers : (step s one two).answer ≡ Accepted told
  pub written : events told

-- The end of an update, in the parts of the code (docs/MECHANICS.md, "Falls and requests").

-- The number of the fault that ended a battle.
abbrev pub fault_in : Outcome → Option ℕ
fault_in (Fault n) = Some n
fault_in _ = None

-- What is asked for next, if nothing is decided.
abbrev pub ask_next : Phase
ask_next = choose (λ p. has_fallen One p || has_fallen Two p) ask_for_switches ask_for_moves

-- A premise: the turn limit isn't reached.
abbrev pub turns_left : Premise
turns_left g p Then = p.field.turn < g.setting.terms.limit → Then

-- By whether the battle is decided. Either it has ended and the rest of the update is skipped, or nothing has
-- happened and a turn is left.
abbrev pub Decides : Frame → Parts → Telling → Bool → Progress → Type 0
Decides g parts events true p = Shows g parts events true (end_if_decided (ruling_of g.setting.terms) p)
Decides g parts events false p = (end_if_decided (ruling_of g.setting.terms) p ≡ p) × Shows g parts events false p × (p.field.turn < g.setting.terms.limit)
