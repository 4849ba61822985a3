pub mod Again
pub mod EncodingTexts
mod Escapes
pub mod Found
pub mod NameTexts
pub mod OctetParts
pub mod PlainTexts
pub mod PrintedTexts
pub mod Skips
pub mod Splits
mod Steps
pub mod TokenOctets
pub mod TokenTexts
mod Vectors
pub mod WordRows
