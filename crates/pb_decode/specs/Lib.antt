pub mod Words
pub mod Opcodes
pub mod Fields
pub mod Encoding
pub mod Packing
pub mod Reading
pub mod Faults
