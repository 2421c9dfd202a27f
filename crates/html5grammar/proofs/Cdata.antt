-- What is proved of a CDATA section as source text.
pub mod Steps
pub mod Reading
pub mod Forms
mod Cases
