-- The packed battle.
pub mod Views
pub mod Pairs
pub mod Memory
pub mod Counts
pub mod Steps
mod Out
pub mod WaysBack
pub mod Chain
pub mod Words
pub mod Storing
mod ElementCodes
mod KindBytes
mod LoadingActives
mod LoadingBlocks
pub mod LoadingForms
mod LoadingMembers
mod LoadingLaws
