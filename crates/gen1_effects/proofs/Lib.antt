-- Early and late effects, by the effect of the move.
pub mod LateEffects
-- Stages that go back to the middle.
pub mod StageReset
-- Effects by chance, and the end of an action.
pub mod Passing
-- A move that fails by a test, or passes it.
pub mod Failing
-- What a move may do in addition to its damage.
pub mod SideEffects
-- The slots that Disable may draw.
pub mod DisabledSlots
