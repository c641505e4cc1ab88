-- What an action shows.
pub mod Action
-- What the two parts of an action show.
pub mod TwoParts
