-- Members, their stats, and teams.
pub mod Members
pub mod Refusals
pub mod Stats
pub mod Teams
