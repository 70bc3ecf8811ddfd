pub mod Laws
pub mod Present
pub mod Outcomes
