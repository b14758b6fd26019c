pub mod Expression
pub mod Form
