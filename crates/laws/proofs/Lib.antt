pub mod BoolLaws
pub mod IntLaws
pub mod ListLaws
pub mod PartLaws
pub mod WordLaws
