-- The parts of the bytes, and the result of a borrowed part.
pub mod Parts
pub mod Lending
-- What an operation of an update shows.
pub mod Shows
-- The words of an operation's contract.
pub mod Operations
-- Words for the clauses of contracts, and reexports.
pub mod Words
pub mod Loading
pub mod LoadingLaws
