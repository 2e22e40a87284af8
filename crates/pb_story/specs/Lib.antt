pub mod Words
pub mod Cells
pub mod Steps
pub mod Answers
pub mod Lines
pub mod Stories
pub mod Frames
pub mod Trials
