pub mod Words
pub mod Seen
pub mod Values
pub mod Writes
pub mod Records
pub mod Lists
pub mod Stats
pub mod SeenHistory
