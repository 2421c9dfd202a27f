pub mod Asked
pub mod Bases
pub mod LinkReading
pub mod Links
pub mod Makings
pub mod PageText
pub mod TokenLineLaws
pub mod TokenLines
