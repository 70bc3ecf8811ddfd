pub mod Cases
pub mod Every
pub mod Parts
pub mod Digits
pub mod Putting
pub mod Whole
