pub mod Counted
pub mod UsedNames
pub mod HelperNumbers
pub mod HelperElements
pub mod FirstFault
