pub mod CountLemmas
pub mod DualLemmas
pub mod AnswerKept
pub mod PartLemmas
pub mod SolutionLemmas
pub mod OneReturn
pub mod LawOfReturn
pub mod ReturnedRules
