-- Random teams, and the sample teams.
pub mod Teams
