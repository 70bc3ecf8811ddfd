pub mod Demands
pub mod Present
pub mod Naming
pub mod NotTwo
pub mod Sending
pub mod Unchanged
pub mod Writing
