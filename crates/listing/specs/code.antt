pub mod Listable
pub mod Writes
