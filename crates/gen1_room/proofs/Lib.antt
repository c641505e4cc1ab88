-- One more submission: what it does to the choices that are there, and to the course.
pub mod Rooms
-- A pair that ends.
pub mod Ending
-- Plain rooms.
pub mod PlainRooms
-- The laws of replies.
pub mod Blind
