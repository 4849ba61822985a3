pub mod Sums
pub mod Sets
pub mod Alone
pub mod VerdictLaws
pub mod Matches
pub mod Made
pub mod Vectors
