pub mod Slots
pub mod ElementNames
pub mod ForeignNames
