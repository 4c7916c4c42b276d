pub mod Feed
pub mod Parts
