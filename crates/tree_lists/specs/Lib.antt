pub mod Wanted
pub mod Opened
pub mod Places
pub mod Formatting
pub mod ListPlaces
