pub mod Adding
pub mod Findings
pub mod Laws
pub mod Lines
pub mod Links
pub mod Makings
pub mod Reading
pub mod Tokens
