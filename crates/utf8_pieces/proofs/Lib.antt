pub mod All
pub mod Cuts
pub mod Fronts
