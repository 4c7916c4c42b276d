pub mod RowLaws
pub mod BoundLaws
pub mod AnswerLaws
pub mod EachLaws
