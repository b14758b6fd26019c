pub mod Sizes
pub mod Grown
pub mod Walk
pub mod Lowering
pub mod Copies
mod Examples
