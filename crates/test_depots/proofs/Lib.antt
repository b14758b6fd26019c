pub mod FolderCrossing
pub mod OwnLate
pub mod Pairs
pub mod WatchedCrossing
