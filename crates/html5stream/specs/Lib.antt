pub mod DecodeErrors
pub mod Errors
pub mod Pages
pub mod Streams
pub mod Taking
