pub mod KnownFiles
pub mod FirstFaults
pub mod ProgramFaults
