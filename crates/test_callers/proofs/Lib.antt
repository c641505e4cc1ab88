-- What is shown when an operation begins, and what the clauses of the operations then say for any generator.
pub mod Operations
