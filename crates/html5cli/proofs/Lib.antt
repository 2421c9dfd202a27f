pub mod TextCuts
pub mod FeedingText
pub mod PrintedOutput
pub mod SettingsLemmas
pub mod PrintedItems
pub mod SameReadings
pub mod WrittenOutput
