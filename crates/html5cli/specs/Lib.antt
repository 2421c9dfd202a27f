pub mod Settings
pub mod Printing
pub mod Ending
