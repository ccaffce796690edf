pub mod MeaningLemmas
pub mod KindLemmas
pub mod LawLemmas
pub mod TermLemmas
pub mod PartLemmas
pub mod FileLemmas
pub mod EntryLemmas
