pub mod Calls
pub mod Links
