pub mod Reading
pub mod Tables
pub mod Texts
pub mod Keys
pub mod TableLaws
pub mod TextLaws
pub mod KeyLaws
