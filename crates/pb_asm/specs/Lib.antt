pub mod Words
pub mod Names
pub mod Codes
pub mod Cuts
pub mod Operands
pub mod Listing
pub mod OutOfRange
pub mod Texts
