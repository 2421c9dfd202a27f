-- What is proved of a processing instruction as source text.
pub mod Reading
pub mod Collected
mod Cases
