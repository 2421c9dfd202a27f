pub mod Built
pub mod Adopting
pub mod Characters
pub mod Foreign
pub mod Taking
