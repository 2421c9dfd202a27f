pub mod ChildLists
pub mod NodeRows
pub mod Lacking
