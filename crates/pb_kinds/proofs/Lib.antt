pub mod Pointwise
pub mod JoinIsMeet
pub mod FlagsFilled
pub mod FlagsByPlace
