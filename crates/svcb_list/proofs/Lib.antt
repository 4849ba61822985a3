mod BuildLemmas
mod ListTexts
mod PartLemmas
mod ProtocolLemmas
