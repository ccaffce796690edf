pub mod BodyTaken
pub mod HeaderSaid
pub mod Heads
pub mod LineSections
pub mod NodesTaken
pub mod PairPieces
pub mod PairSections
pub mod Parts
pub mod Reached
pub mod Rewriting
pub mod Room
pub mod Rows
pub mod StandingMore
pub mod TakenLemmas
pub mod Texts
pub mod TreesTaken
pub mod WholeLaw
mod Names
mod ProgramNames
mod ProgramParts
mod Counting
pub mod Picked
mod Whole
mod Exports
pub mod Reading
pub mod ReadBack
pub mod Binary
pub mod Files
pub mod Writing
pub mod Exporting
pub mod Decimals
