-- Which members are held, and which are free.
pub mod Gate
-- A status by its kind, and the statuses that rules ask for.
pub mod Statuses
-- A stage that moves.
pub mod StageShift
