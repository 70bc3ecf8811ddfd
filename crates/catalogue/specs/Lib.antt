pub mod Items
pub mod Extended
pub mod Corners
pub mod Shapes
pub mod Rows
pub mod code
