pub mod Answer
pub mod Inputs
pub mod Kernel
pub mod Premises
pub mod Typing
pub mod Views
