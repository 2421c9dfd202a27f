pub mod EntityLines
pub mod FilesRead
pub mod LinesNear
pub mod Saying
pub mod TextsRead
