pub mod ReadBack
pub mod Rewritten
pub mod InsideStandings
pub mod InsideTaking
pub mod Writable
pub mod Exportable
pub mod ReadAs
pub mod Imports
