-- The verdict (TEXT-FORM, V1 to V38).
pub mod Checks
pub mod Means
pub mod Answer
pub mod Guarantee
pub mod Job
pub mod Corners
