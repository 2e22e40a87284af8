pub mod Joining
pub mod Unfolding
pub mod Asking
pub mod Cutting
pub mod OneOutcome
pub mod Deciding
