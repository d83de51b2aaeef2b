pub mod State
pub mod Failure
pub mod ReadLine
pub mod Represents
