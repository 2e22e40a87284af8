pub mod Files
pub mod Programs
pub mod FaultTexts
pub mod PathFaults
pub mod FirstFaults
pub mod ProgramFaults
