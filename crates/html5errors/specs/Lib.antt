pub mod CodeNames
pub mod Codes
pub mod Forms
pub mod Messages
pub mod StateNames
