pub mod Words
pub mod Verdict
pub mod Within
pub mod Known
