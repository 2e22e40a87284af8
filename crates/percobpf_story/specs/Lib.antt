pub mod Replays
pub mod Trials
pub mod Commands
