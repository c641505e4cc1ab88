-- A generator that counts down.
pub mod Countdown
