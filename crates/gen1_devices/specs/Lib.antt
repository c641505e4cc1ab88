-- What a sink holds after a text is sent, and the state of a device.
pub mod Output
-- What reading a whole input takes from its source.
pub mod Input
