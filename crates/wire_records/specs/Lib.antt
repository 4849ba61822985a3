pub mod UnknownView
pub mod UnknownComparing
pub mod Texts
pub mod Reading
