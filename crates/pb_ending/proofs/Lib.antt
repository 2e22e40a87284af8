pub mod Walks
pub mod Cursors
