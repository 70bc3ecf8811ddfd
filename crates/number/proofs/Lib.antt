pub mod Laws
pub mod Widths
pub mod Outcomes
