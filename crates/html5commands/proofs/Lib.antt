pub mod Statuses
pub mod NoLogs
