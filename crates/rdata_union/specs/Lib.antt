pub mod Comparing
pub mod Views
pub mod WholeData
