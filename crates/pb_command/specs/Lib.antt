pub mod Commands
pub mod FaultLines
