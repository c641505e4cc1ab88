-- The ways of early effects.
pub mod EarlyEffects
-- What a move may do in addition to its damage.
pub mod SideEffects
