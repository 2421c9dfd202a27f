pub mod Tellings
pub mod Resolving
pub mod Late
pub mod RawEnds
