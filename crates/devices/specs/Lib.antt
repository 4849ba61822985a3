pub mod Counters
pub mod EmptyCalls
pub mod Faults
pub mod Memory
pub mod Reading
pub mod Takes
