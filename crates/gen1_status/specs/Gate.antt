-- Which members are held, which are free apart from their status, and which act without a test (docs/MECHANICS.md,
-- "Gate").
use Rattle.std.specs.Prelude.{◌≡◌, None}
use Rattle.gen1_layout.specs.Words.{Bool, Field, conditions_in, false, other, status_in, true, underway_in, Frame, Phase, Shows, ShowsDrawn, Telling}
use Rattle.gen1_stats.specs.declared.member.Status.{Status}
use Rattle.gen1_stats.specs.declared.member.Status.TheVariants.{Asleep, Frozen, Paralysed}
use Rattle.gen1_machine.specs.declared.side.Pick.{Pick}
use Rattle.gen1_machine.specs.declared.side.Pick.TheVariants.{Held}
use Rattle.gen1_machine.specs.Picks.{is_idle}
use Rattle.gen1_rolls.specs.Draws.{Drawing, Ref, Since, Source}
use Rattle.gen1_machine.specs.declared.terms.Outcome.{Outcome}
use Rattle.gen1_machine.specs.Progress.{Action, Progress, underway}
use Rattle.gen1_layout.specs.Operations.{Premise, Scene}
use Rattle.gen1_layout.specs.Parts.{Parts}
use Rattle.gen1_status.specs.declared.gate_answer.Gate.{Gate}
use Rattle.gen1_status.specs.declared.gate_answer.Gate.TheVariants.{Go, Fault}
use Rattle.gen1_machine.specs.declared.side.Side.{Side}
use Rattle.gen1_machine.specs.declared.terms.Outcome.TheVariants as outcomes

abbrev pub is_held : Pick → Bool
is_held Held = true
is_held _ = false

-- The statuses that can stop a member.
abbrev pub keeps_from_acting : Status → Bool
keeps_from_acting (Asleep turns marked) = true
keeps_from_acting Frozen = true
keeps_from_acting Paralysed = true
keeps_from_acting _ = false

-- Nothing but its status can keep the member from acting.
pub record IsFree (s : Side) (f : Field) : Type 0 where
  pub untrapped : (underway_in (other s) f).trapping ≡ None
  pub unflinching : (conditions_in s f).flinch ≡ false
  pub rested : (underway_in s f).recharge ≡ false
  pub undisabled : (conditions_in s f).disabled ≡ None
  pub unconfused : (conditions_in s f).confused ≡ None

-- Its status can't keep it from acting either, and it has picked something.
pub record ActsAtOnce (s : Side) (pick : Pick) (f : Field) : Type 0 where
  pub free : IsFree s f
  pub able : keeps_from_acting (status_in s f) ≡ false
  pub busy : is_idle pick ≡ false

-- What the gate's result says about its phase (docs/MECHANICS.md, "Gate"): whether the phase stopped, and the outcome
-- after it.

abbrev pub stopped_by : Gate → Bool
stopped_by Go = false
stopped_by _ = true

-- A hit on itself that ends the action may have broken the foe's substitute.
abbrev pub action_after : Gate → Action → Action → Action
action_after Go found left = found
action_after _ found left = record found { broke = left.broke }

abbrev pub frame_after : Gate → Progress → Frame → Frame
frame_after answer after g = record g { action = action_after answer g.action after.action }

-- Only a divisor of 0 ends the battle here.
abbrev pub outcome_after : Gate → Outcome → Outcome
outcome_after Fault outcome = outcomes.Fault 1
outcome_after _ outcome = outcome

-- The parts and the events represent the progress after the phase.
pub record Tells (g : Frame) (parts : Parts) (events : Telling) (answer : Gate) (before after : Progress) : Type 0 where
  pub shows : Shows (frame_after answer after g) parts events (stopped_by answer) after
  pub outcome : after.field.outcome ≡ outcome_after answer before.field.outcome

-- `Tells` with a generator.
pub record TellsDrawn {A : Type 0} (d : Drawing A) (source : Source A) (g : Frame) (parts : Parts) (events : Telling) (now : A) (answer : Gate) (before after : Progress) : Type 0 where
  pub shows : ShowsDrawn d source (frame_after answer after g) parts events now (stopped_by answer) after
  pub outcome : after.field.outcome ≡ outcome_after answer before.field.outcome

-- Code without draws does what a phase does, and its result says how that ended.
abbrev pub DoesTelling : Scene → Gate → Phase → Type 0
DoesTelling s answer phase = s λ parts events knows parts' events' knows'.
    (g : Frame) (p : Progress) → Shows (knows g) parts events false p → Tells (knows' g) parts' events' answer p (phase p)

-- Code with draws does what a phase does, if a premise holds, and its result says how that ended.
abbrev pub DrawsTelling : {A : Type 0} → Drawing A → Ref A → Premise → Scene → Gate → Phase → Type 0
DrawsTelling d random premise s answer phase = s λ parts events knows parts' events' knows'.
    (since : Since d random.exit.now) (g : Frame) (p : Progress) → premise g p
    (ShowsDrawn d since.source (knows g) parts events random.entry.now false p
    → TellsDrawn d since.source (knows' g) parts' events' random.exit.now answer p (phase p))

-- What Bide finds as it begins (docs/MECHANICS.md, "Late effects").

-- Neither thrashing nor trapping is underway.
abbrev pub IsUntied : Side → Progress → Type 0
IsUntied side p = ((underway side p).thrash ≡ None) × ((underway side p).trapping ≡ None)
