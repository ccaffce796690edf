pub mod Known
pub mod Ending
pub mod SeveralFiles
pub mod RefusalLines
