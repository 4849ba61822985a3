pub mod Ascending
pub mod Digests
pub mod Repeats
pub mod ZoneLaws
pub mod Vectors
