pub mod Words
pub mod Gains
pub mod Runs
pub mod Tries
pub mod Stops
pub mod Swaps
pub mod Work
