pub mod Pages
pub mod Refusals
pub mod Streaming
pub mod ByItems
pub mod Handed
