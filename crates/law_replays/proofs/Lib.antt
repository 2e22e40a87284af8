pub mod CutOffs
pub mod Replays
