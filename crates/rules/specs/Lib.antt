pub mod Claim
pub mod Judging
