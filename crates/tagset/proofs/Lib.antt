pub mod Words
pub mod Laws
pub mod Outcomes
pub mod Counting
pub mod Meeting
