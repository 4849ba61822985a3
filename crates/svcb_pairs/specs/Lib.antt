pub mod Holding
pub mod Parameters
pub mod ParameterLaws
pub mod BuilderState
pub mod Pushing
pub mod Spans
pub mod LimitedPairsView
