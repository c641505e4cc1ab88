-- The machine's list of offered choices is the set of `specs/OfferedChoices.antt`.
pub mod OfferedSet
-- The digits of offered choices, and the choices of digits.
pub mod MaskDigits
pub mod MaskChoices
-- The members that may come out, kept from update to update.
pub mod Benches
