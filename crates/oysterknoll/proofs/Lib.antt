pub mod Said
pub mod Corners
pub mod Outcomes
