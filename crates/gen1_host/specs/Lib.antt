-- A table: two players, what was reported to each, how it may end, and what becomes of it by each row.
pub mod Table
-- What each side and the audience are sent, and replies.
pub mod Messages
-- A table as a plain struct.
pub mod Hosts
-- The bytes of a host.
pub mod Loading
-- What no message and no reply reveals.
pub mod Secrecy
