pub mod Core
pub mod Next
