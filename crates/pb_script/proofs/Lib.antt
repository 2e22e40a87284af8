pub mod Trims
pub mod Digits
pub mod Newests
pub mod OneReport
pub mod Gathering
pub mod Told
