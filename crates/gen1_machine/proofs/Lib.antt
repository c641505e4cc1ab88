-- The laws of steps, runs and draws.
pub mod Runs
-- An update is a tree of draws.
pub mod Trees
pub mod TreeWalk
pub mod Shares
pub mod EqualShares
-- The highest cost of an update.
pub mod Costs
pub mod EffectCosts
pub mod ActionCosts
pub mod TurnCosts
pub mod Watching
pub mod WatchedGate
pub mod WatchedEffects
pub mod WatchedActions
pub mod Spectators
-- Every run ends.
pub mod Keeps
pub mod Free
pub mod Turns
pub mod Settled
pub mod RunsEnd
-- Valid states stay valid.
pub mod Tame
pub mod Sound
pub mod SoundWalk
pub mod Acts
pub mod Fitting
pub mod ValidSteps
pub mod Steady
pub mod TiedTurns
pub mod FallenHealthy
pub mod Fallen
pub mod KeptAccuracy
pub mod KeptTurns
pub mod ValidStates
pub mod Fits
-- Worked examples of single rules.
pub mod Computing
pub mod WorkedRules
pub mod WorkedTurns
pub mod WorkedMoves
