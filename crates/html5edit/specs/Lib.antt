pub mod Changes
pub mod Rules
pub mod Asked
pub mod Editing
pub mod EditorChanges
pub mod Pages
pub mod EditedPages
