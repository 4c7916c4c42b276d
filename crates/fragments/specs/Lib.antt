pub mod Fields
pub mod FullBoxes
pub mod Headers
pub mod Runs
pub mod Times
