pub mod Molecules
pub mod Others
pub mod Parting
