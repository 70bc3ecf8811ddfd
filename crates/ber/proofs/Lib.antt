pub mod Sizes
pub mod Forms
pub mod Putting
pub mod Laws
pub mod Outcomes
