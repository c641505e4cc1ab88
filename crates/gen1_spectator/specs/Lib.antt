-- A view as a plain struct, and how it follows a log.
pub mod Plain
