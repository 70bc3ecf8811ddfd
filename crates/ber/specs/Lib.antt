pub mod Read
pub mod Written
pub mod Seen
pub mod Forms
