pub mod Kinds
pub mod Tables
