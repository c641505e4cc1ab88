-- Lemmas about first draws, the ring of link numbers, its rounds, and a generator that counts up.
pub mod First
pub mod Rings
pub mod Standing
