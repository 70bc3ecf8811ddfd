pub mod Laws
pub mod Outcomes
pub mod Same
pub mod Refused
