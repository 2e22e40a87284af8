mod SlotBytes
mod Extending
mod OpcodeTable
pub mod Places
mod FrontRead
mod LowestCode
mod OneProgramOrFault
mod OnePacking
