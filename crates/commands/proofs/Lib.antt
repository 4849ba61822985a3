pub mod Fields
pub mod KeyLemmas
pub mod WholeData
pub mod ZoneFields
pub mod QuestionLemmas
pub mod ProtocolTexts
