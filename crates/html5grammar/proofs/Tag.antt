-- What is proved of a tag as source text.
pub mod Steps
pub mod Attributes
pub mod Stops
pub mod Values
pub mod Parts
pub mod Reading
pub mod Collected
pub mod Forms
pub mod Open
mod Cases
