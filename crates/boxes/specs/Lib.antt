pub mod Boxes
pub mod Folds
pub mod Items
pub mod Lone
