pub mod Rewriter
pub mod Plain
pub mod Rewriting
pub mod Writing
pub mod Edits
