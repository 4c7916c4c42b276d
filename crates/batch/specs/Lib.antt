pub mod Bounds
pub mod Each
