mod SameBatches
pub mod Parts
pub mod Logic
pub mod SameCells
