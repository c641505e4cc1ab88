-- Moves that continue over several turns.
pub mod GoingOn
-- How many hits a move plans, and what follows each.
pub mod MoveHits
