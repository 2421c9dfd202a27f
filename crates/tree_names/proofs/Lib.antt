pub mod NameTables
pub mod Texts
pub mod Loops
pub mod MathKinds
