pub mod Feed
pub mod Refused
pub mod Runs
pub mod Starting
pub mod Beginning
pub mod Undecided
pub mod Quiet
