pub mod Outgoing
pub mod code
