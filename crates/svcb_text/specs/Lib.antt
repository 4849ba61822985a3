pub mod Items
pub mod ScanningValues
pub mod ValueFaults
pub mod Lists
pub mod AllValues
pub mod AllValuesRef
pub mod WholeValues
