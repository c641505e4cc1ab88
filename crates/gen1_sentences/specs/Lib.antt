-- The sentence of an event, and what it needs of the events before.
pub mod Sentences
