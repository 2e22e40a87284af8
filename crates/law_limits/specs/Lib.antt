pub mod Words
pub mod Limits
