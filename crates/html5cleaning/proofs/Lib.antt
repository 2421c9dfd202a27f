pub mod Unpaused
pub mod Waiting
pub mod Fed
pub mod Calls
