mod Walk
mod Labels
mod OwnedNames
mod NameComparisons
mod PrintedTexts
mod AddressReads
