pub mod LowestCode
pub mod PointersWithin
pub mod Pairs
pub mod Pending
pub mod KnownFrames
pub mod Resolved
pub mod OneVerdict
