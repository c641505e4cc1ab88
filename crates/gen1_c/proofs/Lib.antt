-- The log of an update, and what an update returned.
pub mod Updates
-- A list of outcomes.
pub mod Listed
-- No line of an event has more than 95 bytes.
pub mod ShortLines
-- No sentence of an event has more than 127 bytes.
pub mod ShortSentences
-- Texts that are expected, and so are written.
pub mod Writing
-- Sides by their numbers, and a room's replies.
pub mod Replies
-- The odds of a move.
pub mod OddsDue
-- The calls of a battle, one after the other.
pub mod TheTheorem
