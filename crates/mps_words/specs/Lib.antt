pub mod DataLines
pub mod InsideCodes
pub mod InsideFronts
pub mod InsideMarks
pub mod InsideRuns
pub mod Names
pub mod Sections
