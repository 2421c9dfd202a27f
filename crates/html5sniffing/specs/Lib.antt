pub mod Fronts
pub mod Meta
pub mod PageDecoding
pub mod PageEncoding
pub mod Pages
pub mod XmlDeclaration
