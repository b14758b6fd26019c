pub mod ChunkReads
pub mod InputLemmas
pub mod JobLemmas
pub mod NameLemmas
pub mod SeenLemmas
mod StatusExample
mod StatusLemmas
mod StoredLemmas
mod StreamLemmas
