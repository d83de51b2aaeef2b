pub mod Places
pub mod Placing
pub mod Leaping
pub mod Passing
pub mod Listing
pub mod Molecules
