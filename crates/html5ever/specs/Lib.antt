pub mod Tokenizer
pub mod Detached
pub mod Collecting
pub mod RunSteps
pub mod Pieces
pub mod FedPieces
pub mod Pauses
