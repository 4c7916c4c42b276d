pub mod TargetLaws
pub mod WalkLaws
pub mod StoreLaws
pub mod CallLaws
pub mod Cited
