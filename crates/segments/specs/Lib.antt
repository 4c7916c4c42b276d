pub mod Listings
pub mod Segments
pub mod Walks
