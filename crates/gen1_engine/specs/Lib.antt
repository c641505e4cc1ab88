-- What an update returns and leaves.
pub mod Update
-- Many updates, one after the other.
pub mod Replay
