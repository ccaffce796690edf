pub mod Told
pub mod Transfer
pub mod Outcome
pub mod Promise
pub mod InsideRefusal
pub mod InsideAnswer
pub mod SeveralFiles
