pub mod Walked
pub mod Carried
pub mod Stages
pub mod Glanced
pub mod Outcomes
pub mod Given
pub mod Present
