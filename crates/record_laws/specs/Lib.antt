pub mod RecordLaws
pub mod TextLengthLaws
pub mod UnionLaws
