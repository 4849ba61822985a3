pub mod Forms
pub mod FieldsView
pub mod ScanningParts
pub mod ComparingLaws
pub mod LayoutParts
pub mod Prefixes
pub mod Making
