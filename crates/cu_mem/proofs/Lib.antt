mod EntryLemmas
mod Examples
mod Landings
mod LateLemmas
mod MemorySteps
mod Rooms
mod Sharing
