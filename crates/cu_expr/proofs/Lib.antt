pub mod AlignedChunks
mod Examples
pub mod Kernels
pub mod LayoutInfo
pub mod Maps
pub mod NamedLayouts
pub mod Nodes
pub mod ToldArguments
mod ToldSteps
pub mod Typed
