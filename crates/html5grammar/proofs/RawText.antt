-- What is proved of the source of raw text.
pub mod Steps
pub mod Reading
pub mod Items
pub mod Forms
mod Cases
