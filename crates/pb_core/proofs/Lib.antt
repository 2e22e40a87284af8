pub mod Seated
pub mod StepsKeep
pub mod Keeps
pub mod Fresh
mod Grows
