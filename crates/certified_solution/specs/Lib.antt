pub mod Lagrangian
pub mod Solution
pub mod InsideParts
