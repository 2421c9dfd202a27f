mod Rests
mod Searches
mod Written
