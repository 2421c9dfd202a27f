pub mod Attributes
pub mod Outputs
pub mod Pieces
pub mod Quotes
