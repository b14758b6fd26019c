pub mod AskLemmas
mod ChunkLemmas
mod LoadExample
mod LoadLemmas
mod SaidLemmas
pub mod StoreLemmas
pub mod CommandLemmas
