-- What each side may choose, as a set.
pub mod OfferedChoices
