pub mod Decimals
pub mod Variables
pub mod Import
pub mod Faults
pub mod InsideKinds
pub mod InsideUses
pub mod InsideParts
