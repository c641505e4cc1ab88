-- Codes, and their words.
pub mod Codes
-- Teams as plain structs, read from text, and random ones.
pub mod Teams
-- How a battle begins, what updates return, the bytes of choices, and the field of a state that is wrong.
pub mod Battle
-- Events as plain structs and as bytes, and the lines of a log.
pub mod Events
-- Masks, and many battles: updates, random steps and playouts.
pub mod Batches
-- The battles that an update can lead to, and its ways one by one.
pub mod Outcomes
-- Names, rows of the tables, the numbers of effects, and a member's stats.
pub mod Names
-- What a room replies.
pub mod Rooms
-- What a host takes, and what it replies.
pub mod Hosts
-- The odds of a move, and the damage of a hit.
pub mod Odds
-- What a player knows, what is reported to it, and a guess of what it can't know.
pub mod Players
-- All calls that play a battle.
pub mod TheTheorem
