-- Lemmas about pieces, numbers, names, lines and packed fields.
pub mod TextLemmas
pub mod PackedLemmas
