pub mod Words
pub mod Calls
pub mod Codes
pub mod Keeping
pub mod Histories
