pub mod Reversed
pub mod Mapped
pub mod OpenPlaces
pub mod ListPlaces
pub mod Searches
pub mod Lost
