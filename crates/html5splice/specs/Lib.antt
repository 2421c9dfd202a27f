pub mod Cuts
pub mod Edits
pub mod Splicing
pub mod Pages
