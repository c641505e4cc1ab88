-- Lists from which items are taken, what pools hold, and moves and members that are drawn.
pub mod Drawing
