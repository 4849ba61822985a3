mod DocumentParts
mod PrintedTargets
pub mod Pushes
pub mod Records
pub mod ReaderLaws
pub mod Refusals
mod TextLemmas
