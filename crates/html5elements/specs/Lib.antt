pub mod Elements
pub mod Hidden
