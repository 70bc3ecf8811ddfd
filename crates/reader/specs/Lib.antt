pub mod Reads
pub mod code
