pub mod Talk
pub mod Finished
