pub mod StandardList
