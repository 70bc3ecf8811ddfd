pub mod Lines
pub mod Listing
pub mod Lists
pub mod Accepted
pub mod code
