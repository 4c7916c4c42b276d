pub mod NumberLaws
pub mod OnceLaws
pub mod TableLaws
