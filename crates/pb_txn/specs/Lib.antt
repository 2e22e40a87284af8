pub mod Words
pub mod Places
pub mod Plans
pub mod Conversations
pub mod Forms
pub mod Changes
pub mod Allowed
