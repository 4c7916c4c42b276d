pub mod SecondsLaws
pub mod ProductLaws
pub mod DoubleLaws
pub mod AnswerLaws
pub mod NumberLaws
