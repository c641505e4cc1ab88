-- A member that comes out.
pub mod SwitchingIn
