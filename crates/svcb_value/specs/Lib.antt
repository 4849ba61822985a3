pub mod Parameters
pub mod UnknownView
pub mod Lending
pub mod Printing
pub mod PrintingLaws
