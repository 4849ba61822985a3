pub mod KeyTags
pub mod Matching
pub mod Digests
pub mod CdsSets
pub mod Verdicts
