pub mod Answers
pub mod Buffers
pub mod Items
pub mod Messages
pub mod Names
pub mod Records
pub mod Statuses
pub mod Svcb
