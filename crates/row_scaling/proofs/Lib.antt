pub mod FitLemmas
pub mod LinearLemmas
pub mod NumberLemmas
pub mod SharedLemmas
pub mod TieLemmas
mod PlainRows
mod MovedRows
pub mod AddLemmas
pub mod ColumnLemmas
pub mod LineLemmas
pub mod ZeroLemmas
pub mod RowLemmas
