pub mod Listed
pub mod Profile
