pub mod Bodies
pub mod Blocks
pub mod OneReading
pub mod TornBlocks
pub mod ReadableFiles
pub mod OpenedFiles
pub mod Copies
