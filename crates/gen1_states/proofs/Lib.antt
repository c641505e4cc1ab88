-- A battle's plain state gives its bytes, and a battle that was made of a plain state has it.
pub mod ThereAndBack
-- A plain state that passes all tests is a battle.
pub mod Passing
pub mod PassingStates
-- A battle passes all tests.
pub mod BattlesPass
