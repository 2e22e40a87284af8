pub mod Kept
pub mod Filled
pub mod Clocks
pub mod Counts
pub mod Asked
pub mod Faults
pub mod StoryFaults
pub mod CellWords
