pub mod ReplayEndings
pub mod RunEndings
pub mod Unopened
