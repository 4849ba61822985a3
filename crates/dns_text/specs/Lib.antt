pub mod Labels
pub mod Parts
pub mod PlainOctets
pub mod Reading
pub mod Writing
pub mod NameInText
