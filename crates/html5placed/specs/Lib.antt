pub mod PlacedRecords
pub mod PlacedSessions
