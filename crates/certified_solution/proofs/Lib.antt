pub mod Decimals
pub mod Given
pub mod One
pub mod Signs
