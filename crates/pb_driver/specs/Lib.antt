pub mod Words
pub mod FaultTexts
pub mod Texts
pub mod Replays
pub mod Runs
