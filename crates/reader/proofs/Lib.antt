pub mod Laws
pub mod Filling
pub mod Answers
pub mod Outcomes
pub mod Codes
pub mod Headers
