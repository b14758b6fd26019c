pub mod Creation
pub mod Entries
pub mod NewShapes
pub mod Pieces
pub mod Rearranged
pub mod Reshaped
