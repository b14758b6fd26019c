pub mod Answered
mod EntriesRead
mod Examples
mod Families
mod IndexLength
pub mod NoFloats
pub mod NodesRead
mod Passing
mod PlainMembers
mod PlainNodes
mod PlainReaders
pub mod Ranges
pub mod Row
pub mod RowLaws
pub mod RowsRead
pub mod SaidRead
pub mod Says
pub mod Steps
mod TextItems
pub mod Texts
