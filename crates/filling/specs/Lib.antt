pub mod Filled
pub mod Items
