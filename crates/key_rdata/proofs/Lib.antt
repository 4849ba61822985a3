pub mod Orders
pub mod PrintedData
pub mod ScannedFields
