mod BareOctets
pub mod Lengths
pub mod NameTexts
pub mod Nesting
pub mod NextTokens
pub mod Rests
mod PlainOctets
pub mod EntryFaults
