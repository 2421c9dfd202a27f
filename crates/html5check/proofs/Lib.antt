pub mod Orders
pub mod Opening
pub mod Checked
pub mod Identities
pub mod Matching
pub mod SeenTokens
pub mod WholePages
pub mod Standing
