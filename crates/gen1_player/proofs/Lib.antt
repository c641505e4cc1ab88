-- An event as a side learns it, the log bytes of one side, and what becomes of a value to which events are applied.
pub mod Retellings
-- Offered choices from what is shown, and what is not shown.
pub mod Fairness
-- What is known of a battle by its events, phase by phase.
pub mod Facts
pub mod Stories
pub mod ToldGate
pub mod ToldEffects
pub mod ToldActions
pub mod ToldEnds
pub mod Placing
-- What is public of types and conditions agrees with the battle.
pub mod HeardSides
pub mod Conditions
-- The slots of places that have appeared.
pub mod Slots
-- What a side hears of its log is what is public, as the side knows it.
pub mod Lenses
pub mod ToldPublic
-- What is public of members agrees with the battle.
pub mod Appearing
pub mod Members
-- What is public of what members do agrees with the battle.
pub mod Deeds
pub mod DeedStory
pub mod DeedGate
pub mod DeedActs
pub mod DeedMoves
pub mod DeedTurns
pub mod DeedRuns
-- Uses of a move are at most the PP that it lost.
pub mod Counting
pub mod Spending
pub mod SpendingTurns
-- The mark of the sleep clause is on those of whom a sleep by a move of the foe is public.
pub mod Sleepers
pub mod Sleeping
-- Worked examples.
pub mod WorkedPlayers
