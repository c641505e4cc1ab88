-- Lengths, joins, and what is read from what was written.
pub mod Members
pub mod PackedBack
pub mod Parts
pub mod ReadBack
pub mod Spread
