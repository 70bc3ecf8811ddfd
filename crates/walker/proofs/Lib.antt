pub mod Headers
pub mod Rows
pub mod Handed
pub mod Outcomes
