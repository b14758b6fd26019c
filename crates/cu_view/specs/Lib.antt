pub mod Boxes
pub mod Gathered
pub mod Hull
pub mod Pieces
pub mod Planned
pub mod View
