pub mod Words
pub mod Slot
pub mod Contents
pub mod Tiles
pub mod TableOf
