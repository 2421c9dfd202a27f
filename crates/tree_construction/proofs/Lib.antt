pub mod Shown
mod RowCases
