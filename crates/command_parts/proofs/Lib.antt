pub mod FaultLines
pub mod NameLists
pub mod TextsRead
pub mod Opened
pub mod ExportStages
