pub mod Bits
pub mod Falls
pub mod Middles
pub mod Orders
pub mod Outlines
pub mod Sizes
pub mod SumArrays
pub mod SumRounds
pub mod Totals
mod Examples
