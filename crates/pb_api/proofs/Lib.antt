pub mod EmptyTables
pub mod Made
pub mod Reported
pub mod Stops
