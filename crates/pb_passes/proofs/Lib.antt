pub mod Marks
pub mod Drains
