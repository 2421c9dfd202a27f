pub mod AttributeCounts
pub mod Clones
pub mod Counts
pub mod Entries
pub mod Steppings
