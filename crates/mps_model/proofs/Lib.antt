pub mod Adding
pub mod Texts
pub mod NameLemmas
pub mod NumeralLemmas
