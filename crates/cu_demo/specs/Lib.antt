pub mod Expression
pub mod Input
