pub mod Addings
pub mod InLine
pub mod ReadBack
