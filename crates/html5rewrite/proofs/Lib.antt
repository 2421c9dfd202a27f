pub mod Steps
pub mod WrittenPages
pub mod PlainPieces
pub mod Replies
