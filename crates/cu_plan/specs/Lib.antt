pub mod Inlined
pub mod Keeping
pub mod Listed
pub mod Plan
pub mod ReadsChunk
pub mod Refusal
pub mod Text
