-- Definitions that the contracts cite.
pub mod Bytes
pub mod Chances
pub mod Nodes
pub mod Beginning
pub mod Listing
pub mod Logs
pub mod Middles
pub mod Complete
pub mod Weights
pub mod Plain
