pub mod Writes
pub mod Shown
pub mod Retelling
pub mod Trials
