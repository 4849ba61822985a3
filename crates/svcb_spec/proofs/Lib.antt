mod ParamTextVectors
mod DataTextVectors
pub mod PairLaws
pub mod PartLaws
pub mod WireLaws
mod ReadPairs
pub mod ItemLaws
pub mod PairsBack
pub mod ValueLaws
pub mod CommaPieces
pub mod ProtocolTexts
mod Vectors
mod RecordLaws
pub mod RebuildLaws
pub mod OrderLaws
mod Truncation
mod TruncationVectors
