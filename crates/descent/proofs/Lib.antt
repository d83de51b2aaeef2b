pub mod Marks
pub mod Walking
