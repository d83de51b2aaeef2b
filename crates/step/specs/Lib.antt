pub mod Step
pub mod Line
