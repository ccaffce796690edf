pub mod HeadLemmas
pub mod ReaderLemmas
pub mod HeaderLaw
pub mod TakeLemmas
