pub mod Records
pub mod Header
pub mod Causes
pub mod Laws
