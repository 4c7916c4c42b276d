pub mod SettleLaws
pub mod StoredLaws
pub mod AnswerLaws
pub mod SpanLaws
pub mod HeldLaws
pub mod FollowLaws
