pub mod Agrees
pub mod Cursors
