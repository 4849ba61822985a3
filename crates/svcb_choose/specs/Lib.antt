pub mod Usability
pub mod Protocols
pub mod Choosing
pub mod Choices
