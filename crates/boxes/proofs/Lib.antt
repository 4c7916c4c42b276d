pub mod BoxLaws
pub mod FoldLaws
pub mod LoneLaws
