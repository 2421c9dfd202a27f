pub mod TokenPages
pub mod Unnamed
