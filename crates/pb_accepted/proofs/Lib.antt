pub mod CodesRise
pub mod FramesAfter
pub mod CallsCounted
pub mod FramesAreMeets
pub mod JumpsForward
