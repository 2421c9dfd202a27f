pub mod AsciiLabels
pub mod Encodings
pub mod FrontLemmas
pub mod Hints
pub mod PageDecodings
pub mod PageTexts
