pub mod Words
pub mod Parts
pub mod Conversations
pub mod Laws
