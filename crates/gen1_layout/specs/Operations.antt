-- The words of an operation's contract. It is stated by the operation's phase: if a battle is shown before the call,
-- then what the phase makes of it is shown after. The words take the function's parameters by name. In an `ensures`
-- the name of a reference is the pair of its value at the call and its value at the return.
use Rattle.std.specs.Prelude.{Bool, List, false}
use Rattle.std.specs.Borrow.{Bor}
use denote.Triple.Both.{Both}
use Rattle.gen1_rolls.specs.Draws.{Drawing, Ref, Since}
use Rattle.gen1_machine.specs.declared.event.Event.{Event}
use Rattle.gen1_machine.specs.Progress.{Phase, Progress}
use Rattle.gen1_machine.specs.Ruling.{Ruling, ruling_of}
use Rattle.gen1_machine.specs.State.{Terms}
use Rattle.gen1_layout.specs.Parts.{Parts}
use Rattle.gen1_layout.specs.Shows.{Frame, Shows, ShowsDrawn, Telling, Told}

-- A parameter `&T`.
abbrev pub Look : Type 0 → Type 0
Look T = Both (Bor T) (Bor T)

-- A scene: the bytes, the events, and what is known of the action, each at the call and at the return. It is a
-- function that passes these six on.
abbrev pub Scene : Type 1
Scene = (Parts → Telling → (Frame → Frame) → Parts → Telling → (Frame → Frame) → Type 0) → Type 0

-- The function changes a battle and writes events.
abbrev pub scene : {S : Type 0} → (S → Telling) → Ref Parts → Ref S → Scene
scene tells battle events Then =
    Then battle.entry.now (tells events.entry.now) (λ g. g) battle.exit.now (tells events.exit.now) (λ g. g)

-- It changes a battle and writes no events. These were written before.
abbrev pub quiet : List Event → Ref Parts → Scene
quiet told battle Then = Then battle.entry.now (Told told) (λ g. g) battle.exit.now (Told told) (λ g. g)

-- It reads a battle and writes events.
abbrev pub looking : {S : Type 0} → (S → Telling) → Look Parts → Ref S → Scene
looking tells battle events Then =
    Then battle.entry.now (tells events.entry.now) (λ g. g) battle.exit.now (tells events.exit.now) (λ g. g)

-- It reads a battle and writes no events.
abbrev pub unchanged : List Event → Look Parts → Scene
unchanged told battle Then = Then battle.entry.now (Told told) (λ g. g) battle.exit.now (Told told) (λ g. g)

-- Scenes of values, for lemmas and for code that holds no battle: from these parts and events to those, or with no
-- change.
abbrev pub between : Parts → Telling → Parts → Telling → Scene
between parts events parts' events' Then = Then parts events (λ g. g) parts' events' (λ g. g)

abbrev pub at_rest : List Event → Parts → Scene
at_rest told parts Then = Then parts (Told told) (λ g. g) parts (Told told) (λ g. g)

-- A scene at whose end this is known of the action.
abbrev pub learns : (Frame → Frame) → Scene → Scene
learns learned s Then = s λ parts events knows parts' events' _. Then parts events knows parts' events' learned

-- A premise is put before what follows from it, and may be about the battle and its frame. It is none, or about the
-- battle alone, or about its terms alone. Others are written where they are used, as `λ g p Then. A → B → Then`.
abbrev pub Premise : Type 1
Premise = Frame → Progress → Type 0 → Type 0

abbrev pub anything : Premise
anything g p Then = Then

abbrev pub holding : (Progress → Type 0) → Premise
holding Holds g p Then = Holds p → Then

abbrev pub under : (Terms → Type 0) → Premise
under Holds g p Then = Holds g.setting.terms → Then

-- Code without draws does what a phase does.
abbrev pub Does : Scene → Bool → Phase → Type 0
Does s stopped phase = s λ parts events knows parts' events' knows'.
    (g : Frame) (p : Progress) → Shows (knows g) parts events false p → Shows (knows' g) parts' events' stopped (phase p)

-- It does so under the rules of the battle, if a premise holds.
abbrev pub DoesWhere : Premise → Scene → Bool → (Ruling → Phase) → Type 0
DoesWhere premise s stopped phase = s λ parts events knows parts' events' knows'.
    (g : Frame) (p : Progress) → premise g p
    (Shows (knows g) parts events false p → Shows (knows' g) parts' events' stopped (phase (ruling_of g.setting.terms) p))

-- Code with draws does what a phase does, for every generator, and on each stream that agrees with the draws noted at its end.
abbrev pub Draws : {A : Type 0} → Drawing A → Ref A → Scene → Bool → Phase → Type 0
Draws d random s stopped phase = s λ parts events knows parts' events' knows'.
    (since : Since d random.exit.now) (g : Frame) (p : Progress)
    → ShowsDrawn d since.source (knows g) parts events random.entry.now false p
    → ShowsDrawn d since.source (knows' g) parts' events' random.exit.now stopped (phase p)

-- It does so under the rules of the battle, if a premise holds.
abbrev pub DrawsWhere : {A : Type 0} → Drawing A → Ref A → Premise → Scene → Bool → (Ruling → Phase) → Type 0
DrawsWhere d random premise s stopped phase = s λ parts events knows parts' events' knows'.
    (since : Since d random.exit.now) (g : Frame) (p : Progress) → premise g p
    (ShowsDrawn d since.source (knows g) parts events random.entry.now false p
    → ShowsDrawn d since.source (knows' g) parts' events' random.exit.now stopped (phase (ruling_of g.setting.terms) p))

-- Code without draws does what a phase does. It does not say whether the phase stopped.
abbrev pub DoesAnyway : Premise → Scene → (Ruling → Phase) → Type 0
DoesAnyway premise s phase = s λ parts events knows parts' events' knows'.
    (g : Frame) (p : Progress) → premise g p
    (Shows (knows g) parts events false p → (stopped : Bool) × Shows (knows' g) parts' events' stopped (phase (ruling_of g.setting.terms) p))
