pub mod ParamTextLaws
pub mod DataTextLaws
pub mod TextLengthLaws
