pub mod StateCode
pub mod Limits
pub mod Held
