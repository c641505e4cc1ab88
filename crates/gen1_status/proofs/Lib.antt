-- The gate: the meaning of its results, members that are held or free, draws and their comparisons, cleared
-- conditions, sleep, counts.
pub mod Told
pub mod Statuses
-- Stages that move.
pub mod Shifting
