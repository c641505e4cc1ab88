-- A battle that is played by random choices, update by update.
pub mod Playing
-- An update changes no member but those that are out before or after it.
pub mod Following
