pub mod Signs
pub mod Digits
pub mod Laws
pub mod Putting
pub mod Outcomes
