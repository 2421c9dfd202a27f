pub mod Escaped
pub mod Pieces
pub mod Told
pub mod Writing
pub mod Refusals
pub mod Runs
pub mod Looked
pub mod SmallWords
