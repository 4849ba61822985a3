pub mod ZoneRecordView
pub mod Ordering
pub mod Digesting
pub mod Repeats
pub mod Verdicts
pub mod Laws
