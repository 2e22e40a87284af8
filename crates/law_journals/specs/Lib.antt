pub mod Words
pub mod EarlierReads
pub mod AcknowledgedVersions
pub mod LooksBack
pub mod ShownValues
