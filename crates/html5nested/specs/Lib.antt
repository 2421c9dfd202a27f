pub mod PageItems
pub mod Adding
pub mod NestedPages
