pub mod Meaning
pub mod Taken
pub mod Present
