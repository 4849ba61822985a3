pub mod Numbers
pub mod Octets
pub mod Scans
pub mod Texts
pub mod Data
pub mod ReadingBack
pub mod Types
pub mod IpseckeyTexts
pub mod IpseckeyOctets
pub mod IpseckeyReads
pub mod Scanned
pub mod ScannedGateways
pub mod ScannedIpseckeys
pub mod FieldLengths
pub mod IpseckeyLengths
mod PlainTexts
mod UnionFields
mod UnionTexts
