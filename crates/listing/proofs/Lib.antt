pub mod Sizes
pub mod Texts
pub mod Rows
pub mod Answers
pub mod Outcomes
