-- Lemmas about the ranges of stats, about roots, and about lists of members.
pub mod Ranges
pub mod Roots
