-- Sending one text after another.
pub mod OutputLemmas
