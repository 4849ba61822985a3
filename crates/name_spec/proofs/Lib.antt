pub mod NameLaws
pub mod OwnedNameLaws
pub mod NameOrders
pub mod OctetLaws
pub mod NameTruncation
mod Vectors
pub mod AddressTexts
pub mod OctetOrders
pub mod NameLengths
