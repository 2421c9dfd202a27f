-- What is proved of a doctype as source text.
pub mod Steps
pub mod Parts
pub mod Held
pub mod Spelled
pub mod Name
pub mod Reading
pub mod Collected
pub mod Forms
pub mod Open
mod Cases
