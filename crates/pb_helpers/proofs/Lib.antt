pub mod LowestCode
pub mod ArgumentCodesRise
pub mod Versions
pub mod Filled
