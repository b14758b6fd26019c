pub mod Box
pub mod Order
pub mod Rows
pub mod Strided
pub mod StridedSteps
