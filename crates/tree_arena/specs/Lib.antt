pub mod Rows
pub mod Children
pub mod Spots
pub mod Grown
pub mod GrownLaws
