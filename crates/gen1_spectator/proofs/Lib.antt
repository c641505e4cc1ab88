-- Log bytes that a view follows, and logs one after the other.
pub mod Following
-- Views as plain structs.
pub mod PlainViews
