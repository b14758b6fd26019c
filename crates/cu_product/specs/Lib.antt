pub mod Block
pub mod Matrices
pub mod Pairs
