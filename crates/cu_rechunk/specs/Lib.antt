pub mod Nested
pub mod Stages
pub mod Tiles
