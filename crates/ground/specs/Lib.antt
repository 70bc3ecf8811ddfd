pub mod Values
pub mod Earth
pub mod Ground
pub mod Said
pub mod code
