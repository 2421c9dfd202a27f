pub mod Standing
pub mod Wholes
pub mod Draining
pub mod StepRuns
pub mod Handing
pub mod FeedingPieces
pub mod ByItems
pub mod PausesByItems
