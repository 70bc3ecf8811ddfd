pub mod Forwards
pub mod code
