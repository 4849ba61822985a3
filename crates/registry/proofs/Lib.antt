pub mod Lookups
pub mod Numerals
