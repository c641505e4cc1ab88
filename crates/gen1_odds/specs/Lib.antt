-- The kinds of use of a move, and what a use finds in a battle.
pub mod Trials
-- The odds of a use of a move.
pub mod Odds
-- The chance that one use knocks out the foe, or two.
pub mod KnockOut
-- Which draws let a member act, and make its move hit or hold the foe.
pub mod Acting
-- What the odds say of the machine's own phases.
pub mod Laws
