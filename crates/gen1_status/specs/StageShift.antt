-- A shift of a stage, whose failure is left to the caller (docs/MECHANICS.md, "Stage shift").
use Rattle.gen1_layout.specs.Words.{Active, Bool, Frame, IsBetween, Phase, Progress, Shows, Side, Telling, false, true, with_stage, ℕ}
use Rattle.std.specs.Prelude.{ℤ, negsuc, pos, ◌+◌, ◌≡◌, ◌≤◌}
use Rattle.gen1_tables.specs.declared.effect.Stat.{Stat}
use Rattle.gen1_tables.specs.declared.effect.Stat.TheVariants.{Accuracy, Attack, Defense, Evasion, Special, Speed}
use Rattle.gen1_machine.specs.StageShift.{lower_stage, raise_stage}
use Rattle.gen1_layout.specs.Parts.{Parts}

-- A stage, and this many penalties since its stat was last recomputed. Only Attack and Speed have penalties.
abbrev pub with_stage_after : Stat → ℕ → ℕ → Active → Active
with_stage_after Attack stage penalties a = record a { stages = with_stage Attack stage a.stages; attack_penalties = penalties }
with_stage_after Speed stage penalties a = record a { stages = with_stage Speed stage a.stages; speed_penalties = penalties }
with_stage_after Defense stage penalties a = record a { stages = with_stage Defense stage a.stages }
with_stage_after Special stage penalties a = record a { stages = with_stage Special stage a.stages }
with_stage_after Accuracy stage penalties a = record a { stages = with_stage Accuracy stage a.stages }
with_stage_after Evasion stage penalties a = record a { stages = with_stage Evasion stage a.stages }

-- The parts and the events represent the result of a shift at p. If it succeeded, that is the whole shift. If it
-- failed, that is some q, and from q on the shift is only what happens on failing.
abbrev pub ShowsShifted : Frame → Parts → Telling → Bool → (Phase → Phase) → Phase → Progress → Type 0
ShowsShifted g parts events true shift failing p = Shows g parts events false (shift failing p)
ShowsShifted g parts events false shift failing p = (q : Progress) × Shows g parts events false q × (shift failing p ≡ failing q)

-- Code without draws, from these parts and events to those, does what a shift does up to its failing, for any way to
-- fail.
abbrev pub Shifts : Parts → Telling → Parts → Telling → Bool → (Phase → Phase) → Type 0
Shifts parts events parts' events' succeeded shift =
    (failing : Phase) (g : Frame) (p : Progress) → Shows g parts events false p
    → ShowsShifted g parts' events' succeeded shift failing p

-- By this many stages: up if the number is above 0, down if it is below

abbrev pub shift_stage : Side → Side → Stat → ℤ → Phase → Phase
shift_stage user target stat (pos n) = raise_stage user target stat n
shift_stage user target stat (negsuc n) = lower_stage user target stat (n + 1)

-- By one or two stages.
abbrev pub IsShift : ℤ → Type 0
IsShift (pos n) = IsBetween 1 2 n
IsShift (negsuc n) = n ≤ 1
