pub mod OctetLists
mod Vectors
