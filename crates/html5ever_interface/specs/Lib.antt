pub mod States
pub mod Message
pub mod Token
pub mod Sink
pub mod Options
pub mod Collected
pub mod CollectorLaws
