pub mod Trees
pub mod InsideUses
pub mod Written
