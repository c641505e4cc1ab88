-- The plain state of a battle.
pub mod Reading
-- The tests of the fields of a plain state.
pub mod Plain
pub mod Tests
-- What holds for all states.
pub mod Laws
