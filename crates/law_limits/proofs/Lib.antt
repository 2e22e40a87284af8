pub mod Entries
pub mod Prewrites
pub mod Kept
pub mod Served
