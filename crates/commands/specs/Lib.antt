pub mod DataLines
pub mod Cds
pub mod Choose
pub mod ChooseReport
pub mod QuestionView
pub mod ZoneLines
pub mod Zonemd
pub mod ZoneView
