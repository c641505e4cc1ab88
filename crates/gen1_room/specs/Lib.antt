-- What a room holds and replies, in the machine's terms.
pub mod Rooms
-- Rooms that a side has forfeited.
pub mod Forfeits
-- The numbers of refusals.
pub mod Refusals
