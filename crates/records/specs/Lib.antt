pub mod Images
pub mod TakenOut
