pub mod Refusing
pub mod Gaining
pub mod RunAlong
pub mod TryAlong
pub mod Joined
pub mod Swapping
