pub mod Nearest
pub mod Scales
pub mod Extended
pub mod Conversions
pub mod Exact
pub mod code
