-- What is underway, and what a turn changes about it.
pub mod Underways
-- The hits of a move, by its effect.
pub mod MoveHits
