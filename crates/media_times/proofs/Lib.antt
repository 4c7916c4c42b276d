pub mod Cited
pub mod EvenLaws
pub mod Examples
pub mod LimitLaws
pub mod RoundLaws
pub mod TestLaws
