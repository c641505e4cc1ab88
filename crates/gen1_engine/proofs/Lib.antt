-- Which update a pair of offered choices is, and what it does.
pub mod Making
-- Pairs of bytes that were played.
pub mod Played
