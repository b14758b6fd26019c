pub mod Chain
pub mod Weakened
