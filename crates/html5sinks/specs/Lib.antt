pub mod Replies
pub mod Pausing
pub mod Tags
pub mod TagLaws
pub mod Runs
pub mod RunLaws
pub mod Lending
