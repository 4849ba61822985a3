pub mod Complete
pub mod ReadData
pub mod Back
pub mod GenLemmas
pub mod GenDone
mod Vectors
