-- Species and moves by their names.
pub mod Ids
-- The lines of a member, and the words in them.
pub mod MemberLines
-- Whole texts.
pub mod Texts
-- Packed lines.
pub mod Packed
-- The texts of errors.
pub mod Faults
