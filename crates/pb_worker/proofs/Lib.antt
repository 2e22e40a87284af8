pub mod Committing
pub mod CutTries
pub mod OneTransaction
pub mod RunCommits
pub mod TryCommits
pub mod Starts
pub mod SeatEntries
pub mod Making
