pub mod FirstPart
pub mod Readings
pub mod NumeralValues
pub mod SkippedLines
pub mod FirstFault
pub mod Parts
pub mod LinesInTurn
