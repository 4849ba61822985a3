pub mod Headers
pub mod Entries
pub mod RecordContents
pub mod Messages
pub mod Searching
pub mod Aliases
pub mod Laws
