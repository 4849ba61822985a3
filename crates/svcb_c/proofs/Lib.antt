pub mod FaultNumbers
pub mod Filling
pub mod ItemPlaces
pub mod Next
pub mod Whole
