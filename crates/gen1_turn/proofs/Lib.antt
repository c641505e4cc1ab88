-- How the damage of a move is found, and which damages have the same effect.
pub mod Damage
-- Who lives in a turn.
pub mod Living
-- Where no trapping is on.
pub mod Trapping
-- How the parts of a turn follow one another.
pub mod Turns
-- How an action comes to its roll.
pub mod TwoParts
