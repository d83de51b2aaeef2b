pub mod Shapes
pub mod Parts
pub mod Entries
pub mod Nearer
