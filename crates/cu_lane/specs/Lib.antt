pub mod Compared
pub mod Lanes
pub mod Folds
