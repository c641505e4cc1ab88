-- What a viewer has shown, event by event.
pub mod Examples
-- The calls of a battle, one after the other.
pub mod TheTheorem
