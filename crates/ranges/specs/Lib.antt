pub mod Sweep
pub mod Read
pub mod Bars
pub mod Walks
