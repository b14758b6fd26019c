pub mod Bytes
pub mod Residue
pub mod ElementBytes
pub mod Promoted
pub mod Divided
mod Masked
mod Multiplied
mod Saved
mod Shifted
pub mod ScalarRange
mod Examples
pub mod Wrapped
pub mod WordNumbers
pub mod TypeNames
pub mod TypeTests
