pub mod Written
pub mod Handed
pub mod Sessions
pub mod Calls
