pub mod ListLaws
pub mod PlaceLaws
pub mod OpenLaws
pub mod InsertLaws
