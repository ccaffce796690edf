pub mod ColumnSums
mod Examples
pub mod Writing
