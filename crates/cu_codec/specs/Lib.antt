pub mod Box
pub mod Names
pub mod Order
pub mod Parts
