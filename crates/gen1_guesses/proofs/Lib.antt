-- The state of a battle that fits, and the state that this battle represents.
pub mod ForkedStates
-- The player's own side in it.
pub mod OwnForked
-- The foe's side in it.
pub mod FoeForked
-- What a player knows of the foe.
pub mod KnownFoes
-- What holds of a battle that fits, after a run.
pub mod Agreeing
