pub mod Opcodes
pub mod Header
