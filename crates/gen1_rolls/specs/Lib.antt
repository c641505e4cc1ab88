-- Draws, and the generators that make them.
pub mod Draws
pub mod Steady
pub mod Streams
