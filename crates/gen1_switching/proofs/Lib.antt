-- A member that comes out: the bytes, and the event.
pub mod SwitchingIn
-- The close of an update.
pub mod Closed
-- The machine's step, by the kind of update.
pub mod Stepped
