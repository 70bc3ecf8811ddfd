pub mod Units
pub mod code
