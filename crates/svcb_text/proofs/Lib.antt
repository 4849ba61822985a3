pub mod AddressLemmas
pub mod AnswerLemmas
pub mod AscendingLemmas
pub mod CommaLemmas
pub mod ItemLemmas
pub mod KeyLemmas
pub mod ListLemmas
pub mod ListValueLemmas
pub mod ProtocolLemmas
pub mod ValueLemmas
mod WholeValueLemmas
