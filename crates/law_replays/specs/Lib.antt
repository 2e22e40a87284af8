pub mod Words
pub mod Replays
