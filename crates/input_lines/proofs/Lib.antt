pub mod HexadecimalLemmas
pub mod LineLemmas
pub mod NumberLemmas
pub mod SpellingLemmas
pub mod TokenLemmas
