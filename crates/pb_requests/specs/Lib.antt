pub mod Words
pub mod Requests
