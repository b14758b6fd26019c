pub mod Accepted
pub mod Along
pub mod Elementwise
pub mod Joined
pub mod Matmul
pub mod Reduction
pub mod Types
