-- Each sentence ends with a full stop.
pub mod Stops
