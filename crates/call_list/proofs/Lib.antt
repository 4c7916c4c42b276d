pub mod ClaimLaws
pub mod ListedLaws
pub mod LoopLaws
pub mod PartLaws
pub mod ShapeLaws
