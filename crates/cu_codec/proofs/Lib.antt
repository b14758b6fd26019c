pub mod BoxRuns
pub mod KeyLaws
pub mod Numbers
pub mod OneChunk
pub mod Shared
pub mod Swapped
pub mod Taken
