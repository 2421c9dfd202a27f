pub mod Searches
pub mod Soundness
pub mod Marking
pub mod Splits
pub mod Lines
pub mod Colons
pub mod Numbers
