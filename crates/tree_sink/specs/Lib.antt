pub mod Places
pub mod Sinks
pub mod Edited
pub mod Changes
