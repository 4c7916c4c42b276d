pub mod StepLaws
pub mod Claim
pub mod BatchLaws
