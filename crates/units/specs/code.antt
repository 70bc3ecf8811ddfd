pub mod BySets
