pub mod Writes
pub mod code
