pub mod Encoded
pub mod Replies
