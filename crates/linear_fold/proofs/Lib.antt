pub mod BodyLemmas
pub mod ConstantLemmas
pub mod CountLemmas
pub mod Expressions
pub mod Folding
pub mod Operators
pub mod OrderLemmas
pub mod OwnerLemmas
pub mod StackLemmas
pub mod SumLemmas
mod HeldLemmas
mod LeafLemmas
mod CompletionLemmas
mod HeldBodies
