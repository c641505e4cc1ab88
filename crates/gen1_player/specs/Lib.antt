-- What the events of a log make public.
pub mod Public
-- What one side learns of the events.
pub mod Telling
-- What a player knows.
pub mod Player
-- What a side is shown of itself.
pub mod OwnSide
-- What a side may choose follows from what it is shown, and what it is shown says nothing more.
pub mod Fair
-- What holds of all that is public.
pub mod True
