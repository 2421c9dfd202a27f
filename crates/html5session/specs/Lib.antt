pub mod Intake
pub mod Session
pub mod RecordSessions
