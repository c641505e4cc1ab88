-- What a viewer, players and a calculator do.
pub mod Examples
-- What the calls of a battle return.
pub mod TheTheorem
