pub mod Kept
pub mod Ends
pub mod Running
pub mod TwoTexts
