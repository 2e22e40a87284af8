pub mod Frames
pub mod Meet
pub mod Ranges
