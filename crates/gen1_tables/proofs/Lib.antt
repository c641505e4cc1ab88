-- Lemmas about the rows of the tables, and about names.
pub mod Named
pub mod Factors
