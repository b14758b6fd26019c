pub mod Decimals
pub mod Findings
pub mod Lines
pub mod Tellings
pub mod Walks
