-- What is proved of a comment as source text.
pub mod Text
pub mod Steps
pub mod Held
pub mod Reading
pub mod Collected
pub mod Forms
mod Cases
