pub mod Sending
pub mod Items
pub mod Anew
pub mod Steps
pub mod Outcomes
