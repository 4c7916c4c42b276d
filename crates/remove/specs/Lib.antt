pub mod Edges
pub mod Loss
