-- How playouts end.
pub mod Playouts
