-- What a text says of a choice, and the choice that this is.
pub mod ChoiceWords
