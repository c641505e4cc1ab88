-- The words of the public types.
pub mod Sides
pub mod Health
pub mod Numbers
pub mod Choices
pub mod Rules
-- An event in a log, and as a line.
pub mod LogBytes
pub mod Lines
-- A stat at its stage.
pub mod Stages
-- A battle, from its parts up to the whole. To start with the whole, read the list from its end, at `Step`.

-- The state of a battle.
pub mod Conditions
pub mod State
pub mod CurrentStats
pub mod Moves
pub mod Progress
-- The parts of an action.
pub mod CriticalHits
pub mod Damage
pub mod HitTest
pub mod Landing
pub mod Picks
pub mod HitOnItself
pub mod Gate
pub mod ResidualDamage
pub mod StageShift
pub mod Ruling
pub mod EarlyEffects
pub mod LateEffects
pub mod SideEffects
pub mod GoingOn
pub mod Charging
pub mod FixedDamage
pub mod Counter
pub mod HitEffects
pub mod ManyHits
pub mod Action
-- The parts of an update.
pub mod SwitchingIn
pub mod TurnOrder
pub mod Turn
pub mod Falls
pub mod OfferedChoices
pub mod Step
-- What is derived from events and states.
pub mod View
pub mod Room
pub mod Layout
-- Which states are valid, and what the sides plan in a turn.
pub mod Valid
pub mod Plans
-- Laws of steps and of whole runs.
pub mod Laws
pub mod Bounds
pub mod Spectator
