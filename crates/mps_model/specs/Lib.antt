pub mod Built
pub mod Mps
pub mod Text
pub mod Valid
pub mod Names
