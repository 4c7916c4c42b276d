pub mod StretchLaws
pub mod PlaceLaws
pub mod EdgeLaws
pub mod LossLaws
pub mod CallLaws
