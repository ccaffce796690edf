pub mod BlankEnd
pub mod Examples
pub mod FreeLines
pub mod GrammarLemmas
