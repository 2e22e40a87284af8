pub mod Codes
pub mod Table
pub mod Arguments
pub mod Replies
pub mod Record
pub mod OldRecord
pub mod Bytes
