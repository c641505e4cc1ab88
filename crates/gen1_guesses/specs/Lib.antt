-- The battle, its state, and what holds of it.
pub mod Forks
