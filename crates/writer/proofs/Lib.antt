pub mod Pieces
pub mod Values
pub mod Rest
pub mod Whole
pub mod Answers
pub mod Handed
pub mod Outcomes
