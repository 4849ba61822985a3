mod Tests
mod HeldKeys
mod OwnTexts
mod Distinct
mod PairTexts
mod Documents
mod RawPairs
pub mod Refusals
pub mod TypedValues
pub mod Protocols
pub mod ReadBack
pub mod AnyOrder
