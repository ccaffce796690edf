-- What certificates and proofs of a file are judged by.
pub use Rattle.branch_proof.specs.Setting.{setting_of}
