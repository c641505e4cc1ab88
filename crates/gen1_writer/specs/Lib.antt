-- Members and teams as export text and as packed lines.
pub mod Export
