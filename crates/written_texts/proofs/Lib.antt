pub mod Lengths
pub mod LineLemmas
pub mod NumbersRead
pub mod Points
pub mod WordLemmas
pub mod Writing
pub mod WrittenWords
