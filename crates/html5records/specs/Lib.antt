pub mod Records
pub mod Reading
pub mod ReadRecords
pub mod Recording
pub mod RecordedLaws
