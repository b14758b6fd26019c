pub mod Along
pub mod Block
pub mod Drawn
pub mod Line
pub mod Piece
pub mod Reshape
pub mod Row
pub mod Way
