pub mod Device
pub mod Printing
