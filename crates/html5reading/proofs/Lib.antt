pub mod Slices
pub mod InputLemmas
pub mod TextEnds
pub mod Traces
pub mod Cases
pub mod ReadingLemmas
pub mod Splitting
pub mod Steps
pub mod GoodCharacters
pub mod Letters
pub mod Numbers
pub mod NoTags
pub mod NoTagsAtEnd
pub mod LawfulBytes
pub mod LawfulReferences
pub mod LawfulTags
pub mod LawfulSteps
pub mod LawfulReading
pub mod Holding
pub mod TableNames
pub mod NameRuns
pub mod AfterSemicolon
pub mod OnLiterals
pub mod OnSteps
mod ReferenceCases
mod CommentCases
mod InstructionCases
mod DoctypeCases
mod CdataCases
