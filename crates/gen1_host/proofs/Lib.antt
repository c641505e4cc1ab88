-- A table and its rows.
pub mod Tables
-- Submissions, and what tellers make of logs.
pub mod Submissions
-- Each row at an open table.
pub mod Calls
-- The bytes of a host.
pub mod LoadedHosts
-- Worked examples.
pub mod WorkedTables
pub mod QuietRows
pub mod Secrecy
pub mod Audience
