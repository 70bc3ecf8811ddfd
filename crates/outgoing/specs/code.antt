pub mod Staged
pub mod Glance
