pub mod AnswerLaws
pub mod CreateLaws
