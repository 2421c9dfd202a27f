mod Appended
mod Order
mod Spaces
mod Trees
