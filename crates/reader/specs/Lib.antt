pub mod Summary
pub mod LineAt
pub mod Listed
