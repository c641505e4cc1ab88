-- Reading JSON values.
pub mod Reading
