pub mod CodeLemmas
pub mod FrontWords
pub mod KeptNames
pub mod LastLemmas
pub mod NameLemmas
pub mod NumberRuns
pub mod ShortNames
