mod Shift
pub mod NextSlots
pub mod Instructions
