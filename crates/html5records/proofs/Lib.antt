pub mod Written
pub mod Recordings
pub mod ReadBack
pub mod ReadOnly
pub mod Whole
