pub mod Building
pub mod Pushing
pub mod Reading
pub mod Holding
