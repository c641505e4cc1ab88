-- How many of the 256 possible draws are below a bound.
pub mod Counts
-- The hit test by its draw, and the phases that contain it.
pub mod Tested
-- The gate of a turn that begins, by its draws.
pub mod Gated
-- A side effect, by its draw.
pub mod Harmed
