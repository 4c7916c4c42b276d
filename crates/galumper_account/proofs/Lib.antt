pub mod ReadLaws
pub mod StepLaws
pub mod Claim
