pub mod BuildLemmas
pub mod ExportedNames
pub mod GrammarLemmas
pub mod ListedNames
pub mod MeaningLemmas
pub mod ValidLemmas
