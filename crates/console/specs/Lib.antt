pub mod Answered
pub mod Arguments
pub mod Reading
