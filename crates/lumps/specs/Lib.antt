pub mod Readings
pub mod Readers
pub mod LargeFragments
pub mod Lumps
pub mod Cuts
pub mod LumpAnswers
pub mod Scans
