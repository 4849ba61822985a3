mod Orders
mod Parts
pub mod Prefixes
