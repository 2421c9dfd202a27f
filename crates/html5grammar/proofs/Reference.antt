-- What is proved of a character reference as source text.
pub mod Reading
pub mod Collected
pub mod Within
pub mod Anywhere
mod Cases
