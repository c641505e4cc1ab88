-- How shown facts, with what is known of the action, pass through phases.
pub mod Knowledge
-- How plans pass through the parts of an action.
pub mod Planning
