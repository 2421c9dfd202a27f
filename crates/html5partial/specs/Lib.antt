pub mod IndexedTag
pub mod CurrentTag
pub mod Steps
pub mod Runs
pub mod CharRef
pub mod Doctypes
pub mod Undecided
