pub mod FitLaws
pub mod HeadLaws
pub mod PassLaws
pub mod CauseLaws
