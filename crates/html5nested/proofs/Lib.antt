pub mod SameItems
pub mod Markup
pub mod Added
pub mod Spaces
pub mod Nesting
