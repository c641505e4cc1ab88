-- What is offered before the first update, and the letters of a text.
pub mod ChoiceLemmas
