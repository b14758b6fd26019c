pub mod Axes
pub mod Fault
pub mod Info
pub mod Limited
pub mod Literal
pub mod NewShape
pub mod Types
