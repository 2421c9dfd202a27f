pub mod Attributes
pub mod Elements
pub mod Listed
pub mod Slips
