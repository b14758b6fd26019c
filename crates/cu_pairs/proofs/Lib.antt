pub mod BestOf
pub mod BlockParts
pub mod BlockSteps
pub mod ColumnSteps
mod Examples
pub mod Leading
mod FewColumns
pub mod Ordered
pub mod Parts
pub mod RunSteps
pub mod Sizes
pub mod Told
pub mod WholeGroups
pub mod WholePart
