pub mod Same
pub mod Laws
pub mod Columns
pub mod Outcomes
