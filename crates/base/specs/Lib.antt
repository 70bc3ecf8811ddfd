pub mod Digits
pub mod Every
pub mod Putting
pub mod Determined
