-- The numbers of a hit, in the form of the code.
pub mod DamageNumbers
-- What is known of an action, and what its operations show.
pub mod Knowing
-- The plan of the side that acts.
pub mod Planned
