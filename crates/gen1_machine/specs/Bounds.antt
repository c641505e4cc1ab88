-- Upper bounds for an update and for each of its parts (docs/PROOFS.md, "Laws"): draws, events, and bytes of log.
use Rattle.std.specs.Prelude.{List, false, length, ℕ, ◌++◌, ◌+◌, ◌≡◌, ◌≤◌}
use Rattle.gen1_rolls.specs.Streams.{span}
use Rattle.gen1_machine.specs.declared.side.Side.{Side}
use Rattle.gen1_machine.specs.declared.event.Event.{Event}
use Rattle.gen1_machine.specs.declared.side.Pick.{Pick}
use Rattle.gen1_machine.specs.declared.side.Choice.{Choice}
use Rattle.gen1_machine.specs.LogBytes.{codes_of}
use Rattle.gen1_machine.specs.State.{Terms, State}
use Rattle.gen1_machine.specs.Progress.{Phase, Progress}
use Rattle.gen1_machine.specs.ResidualDamage.{residual}
use Rattle.gen1_machine.specs.Ruling.{ruling_of, Ruling}
use Rattle.gen1_machine.specs.Action.{act}
use Rattle.gen1_machine.specs.SwitchingIn.{send_out}
use Rattle.gen1_machine.specs.TurnOrder.{in_order}
use Rattle.gen1_machine.specs.Turn.{turn}
use Rattle.gen1_machine.specs.Step.{update, close_update, step, Accepted}

-- From p to q at most this many draws are made, and at most this many events and bytes of log are added. Events are
-- only ever added at the end.
pub record Spends (draws events bytes : ℕ) (p q : Progress) : Type 0 where
  pub forward : p.drawn ≤ q.drawn
  pub drawn : q.drawn ≤ p.drawn + draws
  pub new : List Event
  pub appended : q.events ≡ p.events ++ new
  pub counted : length new ≤ events
  pub coded : length (codes_of new) ≤ bytes

-- A phase costs at most this much from any start, on a stream whose span is at most that of a link battle.
abbrev pub CostsAtMost : ℕ → ℕ → ℕ → Phase → Type 0
CostsAtMost draws events bytes f = (p : Progress) → p.stopped ≡ false → span p.stream ≤ 2304 → Spends draws events bytes p (f p)

-- The parts

-- One side's action: one loop of at most 2,304 draws, and 19 other draws.
abbrev pub ActIsBounded : Type 0
ActIsBounded = (t : Terms) (s : Side) (pick : Pick) → CostsAtMost 2323 19 107 (act (ruling_of t) s pick)

-- A switch.
abbrev pub SwitchIsBounded : Type 0
SwitchIsBounded = (s : Side) (place : ℕ) → CostsAtMost 0 1 10 (send_out s place)

-- Residual damage after an action.
abbrev pub ResidualIsBounded : Type 0
ResidualIsBounded = (s : Side) → CostsAtMost 0 3 26 (residual s)

-- Settling the order takes one draw at most.
abbrev pub OrderIsBounded : Type 0
OrderIsBounded = (draws events bytes : ℕ) (begins : Side → Phase)
    → ((s : Side) → CostsAtMost draws events bytes (begins s))
    → CostsAtMost (draws + 1) events bytes (in_order begins)

-- The end of an update: two falls, and the outcome, the next turn or the requests.
abbrev pub EndIsBounded : Type 0
EndIsBounded = (r : Ruling) → CostsAtMost 0 3 9 (close_update r)

-- The sums

-- A turn: two actions, residual damage for both sides, and one draw for the order.
abbrev pub TurnIsBounded : Type 0
TurnIsBounded = (t : Terms) (one two : Choice) → CostsAtMost 4647 44 266 (turn (ruling_of t) one two)

-- An update: a turn or switches, and the end.
abbrev pub UpdateIsBounded : Type 0
UpdateIsBounded = (t : Terms) (one two : Choice) → CostsAtMost 4647 47 275 (update (ruling_of t) one two)

-- The bounds of an accepted update, as its callers rely on them.
pub record Bounded (s : State) (events : List Event) (after : State) : Type 0 where
  pub forward : s.drawn ≤ after.drawn
  pub draws : after.drawn ≤ s.drawn + 4700
  pub few : length events ≤ 64
  pub short : length (codes_of events) ≤ 512

abbrev pub StepIsBounded : Type 0
StepIsBounded = (s : State) (one two : Choice) (events : List Event)
    → (step s one two).answer ≡ Accepted events → Bounded s events (step s one two).state
