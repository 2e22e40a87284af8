pub mod Cell
pub mod Sink
pub mod Batch
pub mod Same
pub mod Growths
pub mod Reasons
pub mod Refusals
pub mod Taking
