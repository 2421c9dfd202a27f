pub mod Counting
pub mod Rooms
pub mod Staying
pub mod Written
pub mod Pushing
