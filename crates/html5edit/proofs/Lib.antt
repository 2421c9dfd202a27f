pub mod ByWords
pub mod Names
pub mod PagesRead
