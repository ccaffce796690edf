pub mod Numbers
pub mod Head
pub mod Reading
